-- A SET whose components were presented in the order of its fields, closed, and what refuses it (ITU-T X.691, 21.1).
use Rattle.std.specs.Prelude.{Result, Ok, Err}
use Rattle.std.proofs.Common.{◌≡◌, refl, sym, ap, ap₂, ◌∙◌, ◌⊎◌, subst, inl, inr, ℕ, ◌+◌, ◌%◌, ◌<◌, ◌≤◌, Bool, false, true, List, [], ◌∷◌, ◌++◌, length, Option, Some, None, arith, append-nil}
use Rattle.rasn_types.specs.Variants.{variant_of, Variant}
use Rattle.rasn_types.specs.Values.{Value}
use Rattle.rasn_types.specs.declared.types.Codec.{Codec}
use Rattle.rasn_schema.specs.Orders.{canonised, canonised_slots}
use Rattle.rasn_schema.specs.Fields.{Shape, shapes_from}
use Rattle.rasn_schema.specs.Structures.{record_value, extended}
use Rattle.rasn_schema.specs.Schemas.{by_tag, count, Schema, Parts, no_parts}
use Rattle.rasn_traits.specs.Additions.{PresentsAdditions, RefusesAdditions}
use Rattle.rasn_traits.specs.Calls.{Written}
use Rattle.rasn_traits.specs.Scopes.{PresentsParts, PresentsFields, presents_fields, RefusesFields, refuses_root, refuses_after_root}
use Rattle.per_core.specs.Canon.{bitmap_of, canon, any_set, members}
use Rattle.per_core.specs.PlacedSets.{each_writes, its_flag, its_value, placed}
use Rattle.per_core.specs.Writers.{Writer, just, ◌▹◌, join}
use Rattle.per_core.proofs.Placing.{set_placed}
use Rattle.per_pieces.specs.OpenSets.{bit_writers, closed, components, opened, OpenSet, value_writers}
use Rattle.per_pieces.specs.Pieces.{Appends, bit, bit_count, Piece, Pieces, placed_bits}
use Rattle.per_pieces.proofs.Presented.{all_presented as closed_all, closed_as, HasPresented, none_presented}
use Rattle.per_pieces.proofs.Writing.{then_nothing}
use Rattle.per_write.specs.Components.{Encoding, PutsInOrder, underway}
use Rattle.per_core.specs.declared.encode_error.EncodeError.{EncodeError}
use Rattle.per_core.specs.declared.encode_error.EncodeErrorKind.TheVariants.{OutOfTurn}
use Rattle.per_write.specs.Faults.{IsError, IsMemory, RefusesValue}
use Rattle.per_write.specs.Records.{AreGiven, ClosedAfter, ClosesOrNot, IsUngiven, to_be_given}
use Rattle.per_write.specs.Rules.{encoder_rules}
use Rattle.per_write.specs.WriterState.{Additions, Presents as PresentsIn, Frame, WriterState}
use Rattle.per_write.proofs.Gathering.{closed_form}
use Rattle.per_pieces.specs.Turns.{Enclosing, gathers}
use Rattle.per_enc.specs.Records.{after_marker, part_count}
use Rattle.per_enc.specs.Rules.{encoding_rules, noting}
use Rattle.per_enc.specs.Scopes.{OpensSet}
use Rattle.per_enc.specs.Laws.Sets.{refused_set}
use Rattle.per_enc.proofs.Chain.{end_of}
use Rattle.per_enc.proofs.Extending.{GivenAll, Gathering, given_all, given_none, refused_addition}
use Rattle.per_enc.proofs.NoOpenSet.{additions_alike, additions_refused}
use Rattle.per_enc.proofs.Records.{addition_none, at_start, extended_after, no_more_refused, presents_appended, root_none, stands_in}
use Rattle.per_enc.proofs.SetChain.{all_presented, AllPresented, InSet, other_pieces, refused_component}
use Rattle.per_enc.proofs.SetParts.{has_ordered, part_none}

inside : {s t : OpenSet} → gathers s ≡ gathers t → s ≡ t
inside e = cc

module _ (ps : Parts) (marker : Bool) (qs : Parts) (x i : Encoding) (o : Frame × Enclosing) (h : OpensSet (count ps) (after_marker marker (part_count qs)) x o i) where
  -- what the SET is behind
  abbrev pub z : WriterState
  z = (noting x).writer

  abbrev pub a : Variant
  a = variant_of z.codec

  -- no component was presented yet
  none_yet : InSet h.front (count ps) h.front.pieces [] i
  none_yet =
      let n = count ps in
      let u = opened n h.front.pieces in
      let pieces : i.writer.pieces ≡ u.pieces = ap (λ (k : Encoding). k.writer.pieces) h.inside in
      record {
        set = u.set;
        is_set = ap (λ (k : Encoding). k.set) h.inside;
        presented = subst (λ (y : Pieces). HasPresented n h.front.pieces [] (record { set = u.set; pieces = y })) (sym pieces) (none_presented n h.front.pieces);
        same = other_pieces h.front i.writer (ap (λ (k : Encoding). k.writer.failed) h.inside) (ap (λ (k : Encoding). k.writer.codec) h.inside) (ap (λ (k : Encoding). k.writer.scope) h.inside);
        unfailed = h.marked.unfailed;
      }

  -- all were presented
  pub all_in : (rs : List (Option Value)) (m : Encoding) → PresentsParts encoding_rules ps i rs m → AllPresented h.front (count ps) h.front.pieces [] ps rs m
  all_in rs m k = all_presented h.front (count ps) h.front.pieces [] ps rs i m none_yet (let n : 0 + count ps ≤ count ps = omega arith in n) k

  -- the additions are still to be given
  still_given : (rs : List (Option Value)) (m : Encoding) → marker ≡ true → PresentsParts encoding_rules ps i rs m → Gathering m.writer z.codec (to_be_given (bit_count z.pieces.list) (part_count qs)) (part_count qs)
  still_given rs m e k =
      let l = (all_in rs m k).inside.same in
      record {
        unfailed = ap (λ (q : WriterState). q.failed) l ∙ h.marked.unfailed;
        same = ap (λ (q : WriterState). q.codec) l ∙ h.marked.same;
        keeps = ap (λ (q : WriterState). q.scope.additions) l ∙ (rw e at h.marked.keeps);
        left = omega arith;
      }

  none_given : (rs : List (Option Value)) (m : Encoding) → marker ≡ false → PresentsParts encoding_rules ps i rs m → m.writer.scope.additions ≡ None
  none_given rs m e k = ap (λ (q : WriterState). q.scope.additions) (all_in rs m k).inside.same ∙ (rw e at h.marked.keeps)

  -- a component that is refused refuses the SET
  root_refused : (e : EncodeError) (rs xs : List (Option Value)) → length rs ≡ count ps → RefusesFields encoding_rules e ps qs i rs xs → (marker ≡ false → qs ≡ no_parts)
      → RefusesValue e z (extended (canonised ps) marker qs) (record_value (canonised_slots ps rs) xs)
  root_refused e rs xs l (refuses_root k) w =
      let d = refused_component e h.front (count ps) h.front.pieces [] ps rs i none_yet (let n : 0 + count ps ≤ count ps = omega arith in n) k in
      let has = has_ordered d.s d.v ps rs l d.has in
      let same : d.m.writer.codec ≡ z.codec = d.same ∙ h.marked.same in
      record {
        none = λ f p. root_none a (canonised ps) marker qs (canonised_slots ps rs) xs
            (part_none a d.s d.v (canonised ps) (canonised_slots ps rs) has (λ r. ap (λ (c : Codec). canon (variant_of c) d.s d.v r) (sym same) ∙ d.refused.none d.unfailed r)) p;
        stands = stands_in e.kind z d.m.writer d.s d.v (canonised ps) marker qs (canonised_slots ps rs) xs d.unfailed (inl has) d.refused.stands;
        codec_is = d.refused.codec_is ∙ same;
      }
  root_refused e rs xs l (refuses_after_root {m = m} k r) w = behind marker refl
    where
      behind : (b : Bool) → marker ≡ b → RefusesValue e z (extended (canonised ps) marker qs) (record_value (canonised_slots ps rs) xs)
      behind true q =
          let d = refused_addition e qs m.writer z.codec xs (to_be_given (bit_count z.pieces.list) (part_count qs)) (still_given rs m q k) (additions_refused e qs m xs r) in
          record {
            none = λ f p. addition_none a (canonised ps) marker qs (canonised_slots ps rs) xs d.set d.none p;
            stands = stands_in e.kind z d.m d.s d.v (canonised ps) marker qs (canonised_slots ps rs) xs d.unfailed (inr d.has) d.refused.stands;
            codec_is = d.refused.codec_is ∙ d.same;
          }
      behind false q = absurd (no_more_refused (subst (λ (p : Parts). RefusesAdditions encoder_rules e p m.writer xs) (w q) (additions_refused e qs m xs r)))

  pub refuses_set : (e : EncodeError) (rs xs : List (Option Value)) → (marker ≡ false → qs ≡ no_parts) → length rs ≡ count ps → RefusesFields encoding_rules e ps qs i rs xs
      → RefusesValue e z (Schema.sequence by_tag ps marker qs) (record_value rs xs)
  refuses_set e rs xs w l r = refused_set ps marker qs z rs xs e (root_refused e rs xs l r w)

  -- what its components write, in ascending order of their tags
  abbrev pub root : List (Option Value) → Writer
  root rs = placed ps (each_writes its_flag (members a ps) rs) ▹ placed ps (each_writes its_value (members a ps) rs)

  -- the components that were put in order are those that were presented
  put : (rs : List (Option Value)) (m j : Encoding) (set : OpenSet) (fields : List Shape) (y : WriterState) → fields ≡ shapes_from 0 ps → PresentsParts encoding_rules ps i rs m → j.set ≡ gathers set → j.set ≡ m.set → j.writer.pieces ≡ m.writer.pieces
      → PutsInOrder fields set j.writer y → Appends h.front.pieces (root rs) y.pieces
  put rs m j set fields y e k s t q c =
      let l = all_in rs m k in
      let same_set : set ≡ l.inside.set = inside (sym s ∙ t ∙ l.inside.is_set) in
      let same : underway set j.writer ≡ underway l.inside.set m.writer = ap₂ (λ (u : OpenSet) (p : Pieces). record { set = u; pieces = p }) same_set q in
      let are : c.components ≡ l.components = (closed_as fields (underway set j.writer) c.components c.closed).0 ∙ ap components same ∙ l.inside.presented.done in
      let outer : set.outer ≡ h.front.pieces = ap (λ (u : OpenSet). u.outer) same_set ∙ l.inside.presented.outside in
      let codec : variant_of h.front.codec ≡ a = ap variant_of h.marked.same in
      subst (λ (v : Variant). Appends h.front.pieces (placed ps (each_writes its_flag (members v ps) rs) ▹ placed ps (each_writes its_value (members v ps) rs)) y.pieces) codec
      (subst (λ (ws : List Writer). Appends h.front.pieces (placed ps (each_writes its_flag (members (variant_of h.front.codec) ps) rs) ▹ placed ps ws) y.pieces) (ap value_writers are ∙ l.values)
      (subst (λ (ws : List Writer). Appends h.front.pieces (placed ps ws ▹ placed ps (value_writers c.components)) y.pieces) (ap bit_writers are ∙ l.bits)
      (subst (λ (p : Pieces). Appends p (placed ps (bit_writers c.components) ▹ placed ps (value_writers c.components)) y.pieces) outer
      (c.appended ps e (ap length are ∙ l.counted)))))

  -- a SET of which all components were presented is complete
  complete : (rs : List (Option Value)) (m j : Encoding) (set : OpenSet) (fields : List Shape) → fields ≡ shapes_from 0 ps → PresentsParts encoding_rules ps i rs m → j.set ≡ gathers set → j.set ≡ m.set → j.writer.pieces ≡ m.writer.pieces
      → closed fields (underway set j.writer) ≡ None → ⊥
  complete rs m j set fields e k s t q n =
      let l = all_in rs m k in
      let same_set : set ≡ l.inside.set = inside (sym s ∙ t ∙ l.inside.is_set) in
      let same : underway set j.writer ≡ underway l.inside.set m.writer = ap₂ (λ (u : OpenSet) (p : Pieces). record { set = u; pieces = p }) same_set q in
      let some : closed (shapes_from 0 ps) (underway l.inside.set m.writer) ≡ Some l.components =
      closed_all (count ps) h.front.pieces l.components (underway l.inside.set m.writer) (shapes_from 0 ps) l.inside.presented (l.fit 0) in
      let none : closed (shapes_from 0 ps) (underway l.inside.set m.writer) ≡ None = sym (ap₂ closed e same) ∙ n in
      absurd (let d : None ≡ Some l.components = sym none ∙ some in cc)

  -- X.691 21.1: a SET without an extension marker
  plain_set : (rs : List (Option Value)) → length rs ≡ count ps → (p : ℕ) → (just [] ▹ root rs ▹ just []) p ≡ canon a (Schema.sequence by_tag ps false no_parts) (record_value rs []) p
  unfolding canon bitmap_of
  plain_set rs l p = ap (λ (f : Writer). f p) (sym (set_placed a ps false no_parts rs [] l))

  -- it is closed after its root
  closes_plain : (rs : List (Option Value)) (m j : Encoding) (y w : WriterState) → marker ≡ false → qs ≡ no_parts → PresentsParts encoding_rules ps i rs m → Appends h.front.pieces (root rs) y.pieces → w.pieces ≡ y.pieces
      → w.failed ≡ false → w.codec ≡ z.codec → w.scope ≡ z.scope → PresentsIn z (Schema.sequence by_tag ps false no_parts) (record_value rs []) w
  closes_plain rs m j y w e n k c q f d u =
      let l = (all_in rs m k).as_many in
      let front : h.front.pieces ≡ z.pieces = (rw e at h.marked.pieces) ∙ ap (λ (ks : List Piece). record { list = ks; placed = z.pieces.placed }) (append-nil z.pieces.list) in
      let b : Appends z.pieces (root rs) w.pieces = subst (λ (p : Pieces). Appends z.pieces (root rs) p) (sym q) (subst (λ (p : Pieces). Appends p (root rs) y.pieces) front c) in
      presents_appended z w (Schema.sequence by_tag ps false no_parts) (record_value rs []) b.behind h.marked.begun f d u b.list b.place
      (λ p t. b.written p t ∙ ap (join (placed_bits z.pieces.list p)) (let r = end_of z p in let s : (p + length (placed_bits z.pieces.list p)) % 8 < 8 = omega arith in
      sym (then_nothing (root rs) r) ∙ sym (at_start (root rs ▹ just []) r s) ∙ plain_set rs l r))

  -- with one
  closes_marked : (rs xs : List (Option Value)) (m j : Encoding) (y w : WriterState) → marker ≡ true → PresentsParts encoding_rules ps i rs m → (g : GivenAll m.writer j.writer z.codec qs xs (to_be_given (bit_count z.pieces.list) (part_count qs)))
      → Appends h.front.pieces (root rs) y.pieces → ClosedAfter a (Some g.kept) y.pieces w.pieces → w.failed ≡ false → w.codec ≡ z.codec → w.scope ≡ z.scope → PresentsIn z (Schema.sequence by_tag ps true qs) (record_value rs xs) w
  closes_marked rs xs m j y w e k g c b f d u =
      let l = (all_in rs m k).as_many in
      let front : h.front.pieces ≡ record { list = z.pieces.list ++ bit false ∷ []; placed = z.pieces.placed } = (rw e at h.marked.pieces) in
      let r : Appends (record { list = z.pieces.list ++ bit false ∷ []; placed = z.pieces.placed }) (root rs) y.pieces = subst (λ (p : Pieces). Appends p (root rs) y.pieces) front c in
      let all = extended_after a g.kept (any_set g.kept.flags) z.pieces.list r.behind y.pieces w.pieces g.gathers.extension r.list b in
      presents_appended z w (Schema.sequence by_tag ps true qs) (record_value rs xs) all.0 h.marked.begun f d u all.1 (all.2 ∙ r.place)
      (λ p t. closed_form p a (members a qs) xs z.pieces.list r.behind y.pieces w.pieces (part_count qs) g.kept (root rs) (λ s. t (sym r.place ∙ s)) g.gathers r.list (r.written p t) b
      ∙ ap (join (placed_bits z.pieces.list p)) (ap (λ (v : Writer). v (end_of z p)) (sym (set_placed a ps true qs rs xs l))))

  -- X.691 21.1: a SET that is closed
  pub closes_set : (rs xs : List (Option Value)) (j : Encoding) (set : OpenSet) (fields : List Shape) (y w : WriterState) (result : Result (Unit {0}) EncodeError) → (marker ≡ false → qs ≡ no_parts) → fields ≡ shapes_from 0 ps
      → PresentsFields encoding_rules ps qs i rs xs j → j.set ≡ gathers set → PutsInOrder fields set j.writer y → ClosesOrNot o.0 y result w → Written encoder_rules (Schema.sequence by_tag ps marker qs) (record_value rs xs) z result w
  closes_set rs xs j set fields y w result n e (presents_fields {m = m} k b) s c d = go marker refl result d
    where
      t : PresentsAdditions encoder_rules qs m.writer xs j.writer × (j.set ≡ m.set)
      t = additions_alike qs m j xs b

      codec_of : j.writer.codec ≡ z.codec → y.codec ≡ z.codec
      codec_of f = ap (λ (q : WriterState). q.codec) c.same ∙ f

      go : (b : Bool) → marker ≡ b → (r : Result (Unit {0}) EncodeError) → ClosesOrNot o.0 y r w → Written encoder_rules (Schema.sequence by_tag ps marker qs) (record_value rs xs) z r w
      go true q r d = marked r d
        where
          g : GivenAll m.writer j.writer z.codec qs xs (to_be_given (bit_count z.pieces.list) (part_count qs))
          g = given_all qs m.writer j.writer z.codec xs (to_be_given (bit_count z.pieces.list) (part_count qs)) (still_given rs m q k) t.0

          keeps : y.scope.additions ≡ Some g.kept
          keeps = ap (λ (q : WriterState). q.scope.additions) c.same ∙ g.gathering.keeps

          marked : (r : Result (Unit {0}) EncodeError) → ClosesOrNot o.0 y r w → Written encoder_rules (Schema.sequence by_tag ps marker qs) (record_value rs xs) z r w
          marked (Ok u) d =
              let v = d.ok.same in
              let closed_so : ClosedAfter a (Some g.kept) y.pieces w.pieces =
              subst (λ (q : Option Additions). ClosedAfter a q y.pieces w.pieces) keeps (subst (λ (f : Codec). ClosedAfter (variant_of f) y.scope.additions y.pieces w.pieces) (codec_of g.gathering.same) d.ok.pieces) in
              subst (λ (b : Bool). PresentsIn z (Schema.sequence by_tag ps b qs) (record_value rs xs) w) (sym q)
              (closes_marked rs xs m j y w q k g (put rs m j set fields y e k s t.1 g.pieces c) closed_so
              (ap (λ (f : WriterState). f.failed) v ∙ ap (λ (f : WriterState). f.failed) c.same ∙ g.gathering.unfailed) (ap (λ (f : WriterState). f.codec) v ∙ codec_of g.gathering.same) (ap (λ (f : WriterState). f.scope) v ∙ h.marked.waits))
          marked (Err f) d = refused d.err
            where
              left : j.writer.scope.presences.left ≡ 0
              left = ap (λ q. q.left) g.presences ∙ ap (λ (q : WriterState). q.scope.presences.left) (all_in rs m k).inside.same ∙ ap (λ q. q.left) h.marked.place

              refused : IsMemory f y ⊎ (IsError OutOfTurn f y × IsUngiven y.scope) → Written encoder_rules (Schema.sequence by_tag ps marker qs) (record_value rs xs) z (Err f) w
              refused (inl p) = inl (record { kind_is = p.kind_is; codec_is = p.codec_is ∙ codec_of g.gathering.same })
              refused (inr (p, inl v)) = let k = ap (λ (q : WriterState). q.scope.presences.left) c.same ∙ left in absurd (omega arith)
              refused (inr (p, inr v)) = absurd (v (subst AreGiven (sym keeps) (let l = g.gathering.left in let all : length g.kept.flags ≡ g.kept.count = omega arith in all)))
      go false q r d = plain r d
        where
          given : (xs ≡ []) × (j.writer ≡ m.writer)
          given = given_none qs m.writer j.writer xs (none_given rs m q k) t.0

          same : j.writer ≡ record h.front { pieces = m.writer.pieces }
          same = given.1 ∙ (all_in rs m k).inside.same

          codec : y.codec ≡ z.codec
          codec = codec_of (ap (λ (f : WriterState). f.codec) same ∙ h.marked.same)

          none : y.scope.additions ≡ None
          none = ap (λ (f : WriterState). f.scope.additions) c.same ∙ ap (λ (f : WriterState). f.scope.additions) given.1 ∙ none_given rs m q k

          plain : (r : Result (Unit {0}) EncodeError) → ClosesOrNot o.0 y r w → Written encoder_rules (Schema.sequence by_tag ps marker qs) (record_value rs xs) z r w
          plain (Ok u) d =
              let v = d.ok.same in
              let pieces : w.pieces ≡ y.pieces = subst (λ (q : Option Additions). ClosedAfter (variant_of y.codec) q y.pieces w.pieces) none d.ok.pieces in
              rw (q, n q, given.0) (closes_plain rs m j y w q (n q) k (put rs m j set fields y e k s t.1 (ap (λ (f : WriterState). f.pieces) given.1) c) pieces
              (ap (λ (f : WriterState). f.failed) v ∙ ap (λ (f : WriterState). f.failed) c.same ∙ ap (λ (f : WriterState). f.failed) same ∙ h.marked.unfailed) (ap (λ (f : WriterState). f.codec) v ∙ codec) (ap (λ (f : WriterState). f.scope) v ∙ h.marked.waits))
          plain (Err f) d = refused d.err
            where
              left : j.writer.scope.presences.left ≡ 0
              left = ap (λ (q : WriterState). q.scope.presences.left) same ∙ ap (λ q. q.left) h.marked.place

              refused : IsMemory f y ⊎ (IsError OutOfTurn f y × IsUngiven y.scope) → Written encoder_rules (Schema.sequence by_tag ps marker qs) (record_value rs xs) z (Err f) w
              refused (inl p) = inl (record { kind_is = p.kind_is; codec_is = p.codec_is ∙ codec })
              refused (inr (p, inl v)) = let k = ap (λ (q : WriterState). q.scope.presences.left) c.same ∙ left in absurd (omega arith)
              refused (inr (p, inr v)) = absurd (v (subst AreGiven (sym none) tt))

  -- one whose components weren't put: memory ran out
  pub unput_set : (rs xs : List (Option Value)) (j : Encoding) (set : OpenSet) (fields : List Shape) (e : EncodeError) → (marker ≡ false → qs ≡ no_parts) → fields ≡ shapes_from 0 ps
      → PresentsFields encoding_rules ps qs i rs xs j → j.set ≡ gathers set → IsMemory e j.writer ⊎ (IsError OutOfTurn e j.writer × (closed fields (underway set j.writer) ≡ None)) → IsMemory e z
  unput_set rs xs j set fields e n f (presents_fields {m = m} k b) s c = go marker refl
    where
      t : PresentsAdditions encoder_rules qs m.writer xs j.writer × (j.set ≡ m.set)
      t = additions_alike qs m j xs b

      said : j.writer.codec ≡ z.codec → j.writer.pieces ≡ m.writer.pieces → IsMemory e j.writer ⊎ (IsError OutOfTurn e j.writer × (closed fields (underway set j.writer) ≡ None)) → IsMemory e z
      said d p (inl q) = record { kind_is = q.kind_is; codec_is = q.codec_is ∙ d }
      said d p (inr q) = absurd (complete rs m j set fields f k s t.1 p q.1)

      go : (b : Bool) → marker ≡ b → IsMemory e z
      go true q = let g = given_all qs m.writer j.writer z.codec xs (to_be_given (bit_count z.pieces.list) (part_count qs)) (still_given rs m q k) t.0 in said g.gathering.same g.pieces c
      go false q =
          let v = (given_none qs m.writer j.writer xs (none_given rs m q k) t.0).1 in
          said (ap (λ (y : WriterState). y.codec) (v ∙ (all_in rs m k).inside.same) ∙ h.marked.same) (ap (λ (y : WriterState). y.pieces) v) c

  -- an open SET is there
  pub still_open : (rs xs : List (Option Value)) (j : Encoding) → PresentsFields encoding_rules ps qs i rs xs j → (k : OpenSet) × (j.set ≡ gathers k) × (j.writer.failed ≡ false)
  still_open rs xs j (presents_fields {m = m} k b) = go marker refl
    where
      t : PresentsAdditions encoder_rules qs m.writer xs j.writer × (j.set ≡ m.set)
      t = additions_alike qs m j xs b

      l : AllPresented h.front (count ps) h.front.pieces [] ps rs m
      l = all_in rs m k

      go : (b : Bool) → marker ≡ b → (k : OpenSet) × (j.set ≡ gathers k) × (j.writer.failed ≡ false)
      go true q = (l.inside.set, t.1 ∙ l.inside.is_set, (given_all qs m.writer j.writer z.codec xs (to_be_given (bit_count z.pieces.list) (part_count qs)) (still_given rs m q k) t.0).gathering.unfailed)
      go false q = (l.inside.set, t.1 ∙ l.inside.is_set, ap (λ (y : WriterState). y.failed) ((given_none qs m.writer j.writer xs (none_given rs m q k) t.0).1 ∙ l.inside.same) ∙ h.marked.unfailed)
