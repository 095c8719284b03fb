-- The calls of an encoder that give additions (ITU-T X.691, 11.2, 19.7 to 19.9).
use Rattle.std.specs.Prelude.{Result, Ok, Err, not, nat_lt}
use Rattle.std.proofs.Common.{◌≡◌, refl, sym, ap, ap₂, ◌∙◌, subst, inl, inr, ℕ, zero, suc, ◌<◌, ◌≤◌, Bool, true, false, length, Some, None, arith, append-nil, lt-ltb}
use Rattle.std.proofs.lemmas.Bool.{le-ltb}
use Rattle.rasn_types.specs.Bits.{Bits}
use Rattle.rasn_types.specs.Variants.{variant_of, Variant}
use Rattle.rasn_types.specs.Values.{Value, fields, slots}
use Rattle.rasn_types.specs.declared.types.Codec.{Codec}
use Rattle.rasn_schema.specs.Fields.{shapes_from}
use Rattle.rasn_schema.specs.Structures.{presence_bits, extended}
use Rattle.rasn_schema.specs.Normal.{is_vacant, settle}
use Rattle.rasn_schema.specs.Records.{record_at}
use Rattle.rasn_schema.specs.Schemas.{listed, Schema, Parts, no_parts, part, required, optional, group, default}
use Rattle.rasn_traits.specs.Additions.{AdditionClosed, AdditionOpened, AdditionSkipped}
use Rattle.per_core.specs.Canon.{canon}
use Rattle.per_pieces.specs.Pieces.{Pieces, placed_bits}
use Rattle.per_core.specs.declared.encode_error.EncodeError.{EncodeError}
use Rattle.per_write.specs.declared.presences.Presences.{Presences}
use Rattle.per_write.specs.Additions.{ClosesOrNot, has_required, is_group_there, open_if, Opens, OpensOrNot, OutsideAddition, SkipsOrNot, with_next}
use Rattle.per_write.specs.Rules.{encoder_rules}
use Rattle.per_write.specs.WriterState.{Additions, AppendsBits, Frame, WriterState, Presents}
use Rattle.per_write.proofs.EmptyGroups.{group_there}
use Rattle.per_enc.specs.Records.{part_count}
use Rattle.per_enc.proofs.Presenting.{presents_first}

inside : {A : Type 0} {s t : A} → Some s ≡ Some t → s ≡ t
inside e = cc

pub skipped : (x y : WriterState) (result : Result (Unit {0}) EncodeError) → SkipsOrNot x result y → AdditionSkipped encoder_rules x result y
skipped x y (Ok u) h = h.ok
skipped x y (Err e) h = elim h.err [ inl m ↦ inl m | inr s ↦ inr (inl s) ]

pub opened : (x y : WriterState) (result : Result OutsideAddition EncodeError) → OpensOrNot x result y → AdditionOpened encoder_rules Opens x result y
opened x y (Ok o) h = (h.ok, record { outside = o; opened = h.ok })
opened x y (Err e) h = elim h.err [ inl m ↦ inl m | inr s ↦ inr (inl s) ]

-- what was written inside an open type is the value's canonical bits
contents_of : (x i j : WriterState) (o : OutsideAddition) (s : Schema) (v : Value) → Opens x o i → Presents i s v j → canon (variant_of x.codec) s v 0 ≡ Some (placed_bits j.pieces.list 0)
contents_of x i j o s v h w = ap (λ (c : Codec). canon (variant_of c) s v 0) (sym (ap (λ z. z.codec) h.same)) ∙ sym (presents_first i j s v (ap (λ z. z.pieces) h.same) w)

-- what was before is there again, but for the additions
restored : (x i j y : WriterState) (o : OutsideAddition) (s : Schema) (v : Value) (k : Additions) → Opens x o i → Presents i s v j → y ≡ record j { pieces = o.pieces; scope = record { presences = o.presences; additions = Some k; is_open = j.scope.is_open } } →
    y ≡ record x { scope = record x.scope { additions = Some k } }
restored x i j y o s v k h w e =
    let codec : j.codec ≡ x.codec = w.same ∙ ap (λ z. z.codec) h.same in
    let failed : j.failed ≡ x.failed = w.left ∙ sym h.awaits.begun in
    let pieces : o.pieces ≡ x.pieces = ap (λ z. z.pieces) h.waits in
    let presences : o.presences ≡ x.scope.presences = ap (λ z. z.presences) h.waits in
    let open_still : j.scope.is_open ≡ x.scope.is_open = ap (λ (s : Frame). s.is_open) w.beside ∙ ap (λ z. z.scope.is_open) h.same in
    e ∙ ap₂ (λ (ps : Pieces) (f : Bool). record { pieces = ps; failed = f; codec = j.codec; scope = record { presences = o.presences; additions = Some k; is_open = j.scope.is_open } }) pieces failed
    ∙ ap₂ (λ (c : Codec) (q : Presences). record { pieces = x.pieces; failed = x.failed; codec = c; scope = record { presences = q; additions = Some k; is_open = j.scope.is_open } }) codec presences
    ∙ ap (λ (b : Bool). record x { scope = record { presences = x.scope.presences; additions = Some k; is_open = b } }) open_still

-- the value of an addition
pub closed : (x i j y : WriterState) (o : OutsideAddition) (s : Schema) (v : Value) (result : Result (Unit {0}) EncodeError) → Opens x o i → Presents i s v j → ClosesOrNot true o j result y → AdditionClosed encoder_rules s (Some v) x result y
closed x i j y o s v (Ok u) h w c = record {
  before = o.additions;
  awaits = h.awaits;
  contents = placed_bits j.pieces.list 0;
  complete = contents_of x i j o s v h w;
  opens = c.ok.opens;
  appended = subst (λ (e : Codec). AppendsBits o.additions.opens (open_if (variant_of e) true (placed_bits j.pieces.list 0)) c.ok.opens) codec c.ok.appended;
  same = restored x i j y o s v (with_next o.additions true c.ok.opens) h w c.ok.same;
}
  where
    codec : j.codec ≡ x.codec
    codec = w.same ∙ ap (λ z. z.codec) h.same
closed x i j y o s v (Err e) h w c = record { kind_is = c.err.kind_is; codec_is = c.err.codec_is ∙ w.same ∙ ap (λ z. z.codec) h.same }

-- X.691 19.9: whether a group is there
shown_group : (a : Variant) (ps : Parts) (marker : Bool) (qs : Parts) (v : Value) (written : Bits) → canon a (extended ps marker qs) v 0 ≡ Some written → is_group_there (has_required ps) written ≡ not (is_vacant (extended ps marker qs) v)
unfolding canon is_vacant
shown_group a ps marker qs (fields r x) written e = group_there a marker ps qs (slots r) (slots x) 0 written e
shown_group a ps marker qs _ written e = absurd cc

left_out : (x i j y : WriterState) (o : OutsideAddition) (s : Schema) (v : Value) (result : Result (Unit {0}) EncodeError) → Opens x o i → Presents i s v j → ClosesOrNot false o j result y → AdditionClosed encoder_rules s None x result y
left_out x i j y o s v (Ok u) h w c =
    let opens : c.ok.opens ≡ o.additions.opens = inside c.ok.appended ∙ append-nil o.additions.opens in
    record {
      before = o.additions;
      awaits = h.awaits;
      same = restored x i j y o s v (with_next o.additions false c.ok.opens) h w c.ok.same ∙ ap (λ (bs : Bits). record x { scope = record x.scope { additions = Some (with_next o.additions false bs) } }) opens;
    }
left_out x i j y o s v (Err e) h w c = record { kind_is = c.err.kind_is; codec_is = c.err.codec_is ∙ w.same ∙ ap (λ z. z.codec) h.same }

-- a group
pub group_closed : (ps : Parts) (marker : Bool) (qs : Parts) (x i j y : WriterState) (o : OutsideAddition) (v : Value) (has : Bool) (result : Result (Unit {0}) EncodeError) → has ≡ has_required ps → Opens x o i → Presents i (extended ps marker qs) v j →
    ClosesOrNot (is_group_there has (placed_bits j.pieces.list 0)) o j result y → AdditionClosed encoder_rules (extended ps marker qs) (settle group (extended ps marker qs) v) x result y
unfolding settle
group_closed ps marker qs x i j y o v has result e h w c = go (is_vacant (extended ps marker qs) v) refl
  where
    there : is_group_there has (placed_bits j.pieces.list 0) ≡ not (is_vacant (extended ps marker qs) v)
    there = ap (λ (b : Bool). is_group_there b (placed_bits j.pieces.list 0)) e ∙ shown_group (variant_of x.codec) ps marker qs v (placed_bits j.pieces.list 0) (contents_of x i j o (extended ps marker qs) v h w)

    go : (b : Bool) → is_vacant (extended ps marker qs) v ≡ b → AdditionClosed encoder_rules (extended ps marker qs) (settle group (extended ps marker qs) v) x result y
    go false n = rw n (closed x i j y o (extended ps marker qs) v result h w (subst (λ (b : Bool). ClosesOrNot b o j result y) (there ∙ ap not n) c))
    go true n = rw n (left_out x i j y o (extended ps marker qs) v result h w (subst (λ (b : Bool). ClosesOrNot b o j result y) (there ∙ ap not n) c))

-- nothing was written where a tree is cut off
pub none_cut : (i j : WriterState) (v : Value) → Presents i Schema.cut v j → ⊥
unfolding canon
none_cut i j v w = let n : Some (placed_bits j.pieces.list 0) ≡ None = w.appended.written 0 (λ t. refl) in absurd cc

-- the same by the group's own family of trees
pub family_closed : (parts : ℕ → Parts) (marker : Bool) (additions : ℕ → Parts) (schema : ℕ → Schema) → schema ≡ record_at listed parts marker additions → (x i j y : WriterState) (o : OutsideAddition) (n : ℕ) (v : Value) (has : Bool)
    (result : Result (Unit {0}) EncodeError) → ((m : ℕ) → has ≡ has_required (parts m)) → Opens x o i → Presents i (schema n) v j → ClosesOrNot (is_group_there has (placed_bits j.pieces.list 0)) o j result y
    → AdditionClosed encoder_rules (schema n) (settle group (schema n) v) x result y
family_closed parts marker additions schema e x i j y o n v has result q h w c = rw e (at_each n (rw e at w))
  where
    at_each : (m : ℕ) → Presents i (record_at listed parts marker additions m) v j → AdditionClosed encoder_rules (record_at listed parts marker additions m) (settle group (record_at listed parts marker additions m) v) x result y
    at_each zero u = absurd (none_cut i j v u)
    at_each (suc m) u = group_closed (parts m) marker (additions m) x i j y o v has result (q m) h u c

-- how many parts there are
pub shapes_counted : (i : ℕ) (ps : Parts) → length (shapes_from i ps) ≡ part_count ps
shapes_counted i no_parts = refl
shapes_counted i (part t q s ps) = ap suc (shapes_counted (suc i) ps)

bits_within : (ps : Parts) → presence_bits ps ≤ part_count ps
bits_within no_parts = omega arith
bits_within (part t required s ps) = let h = bits_within ps in omega arith
bits_within (part t optional s ps) = let h = bits_within ps in omega arith
bits_within (part t group s ps) = let h = bits_within ps in omega arith
bits_within (part t (default d) s ps) = let h = bits_within ps in omega arith

some_required : (ps : Parts) → has_required ps ≡ true → presence_bits ps < part_count ps
some_required no_parts h = absurd cc
some_required (part t required s ps) h = let b = bits_within ps in omega arith
some_required (part t optional s ps) h = let b = some_required ps h in omega arith
some_required (part t group s ps) h = let b = some_required ps h in omega arith
some_required (part t (default d) s ps) h = let b = some_required ps h in omega arith

none_required : (ps : Parts) → has_required ps ≡ false → presence_bits ps ≡ part_count ps
none_required no_parts h = refl
none_required (part t required s ps) h = absurd cc
none_required (part t optional s ps) h = let b = none_required ps h in omega arith
none_required (part t group s ps) h = let b = none_required ps h in omega arith
none_required (part t (default d) s ps) h = let b = none_required ps h in omega arith

-- whether a part is required, by how many have a presence bit
pub required_counted : (ps : Parts) → nat_lt (presence_bits ps) (part_count ps) ≡ has_required ps
required_counted ps = go (has_required ps) refl
  where
    go : (b : Bool) → has_required ps ≡ b → nat_lt (presence_bits ps) (part_count ps) ≡ has_required ps
    go true h = lt-ltb (presence_bits ps) (part_count ps) (some_required ps h) ∙ sym h
    go false h = le-ltb (presence_bits ps) (part_count ps) (let e = none_required ps h in omega arith) ∙ sym h
