-- A CHOICE of which the alternative is known: how it is opened, refused and closed (ITU-T X.691, 23).
use Rattle.std.specs.Prelude.{Result, Ok, Err, IsOk, OnErr}
use Rattle.std.proofs.Common.{◌≡◌, refl, sym, ap, ap₂, ◌∙◌, subst, inl, inr, ℕ, suc, Bool, true, false, length, Option, Some, None, arith}
use Rattle.rasn_types.specs.Bits.{Bits}
use Rattle.rasn_types.specs.Variants.{variant_of, Variant}
use Rattle.rasn_types.specs.Values.{Value, alternative, Side, root, added}
use Rattle.rasn_types.specs.declared.types.Codec.{Codec}
use Rattle.rasn_schema.specs.Structures.{alternative_at, alternative_in, choice_schema}
use Rattle.rasn_schema.specs.Enumerations.{is_extensible}
use Rattle.rasn_schema.specs.Schemas.{count, Parts, no_parts, part, Schema}
use Rattle.rasn_schema.specs.declared.items.ItemCounts.{ItemCounts}
use Rattle.rasn_schema.specs.declared.items.Place.{Place}
use Rattle.rasn_schema.specs.declared.items.Place.TheVariants.{Root, Added}
use Rattle.rasn_traits.specs.Calls.{Written}
use Rattle.rasn_traits.specs.Choices.{PassesAlternative, index_in, side_of}
use Rattle.rasn_traits.specs.Counted.{IsChoiceOf, PlacedOpened}
use Rattle.per_core.specs.Canon.{canon, chosen, extension_bit, members}
use Rattle.per_core.specs.Counts.{constrained_whole, open_bits, small}
use Rattle.per_core.specs.Writers.{Writer, ◌▹◌}
use Rattle.per_pieces.specs.Pieces.{Pieces}
use Rattle.per_pieces.proofs.Writing.{then_assoc, then_same}
use Rattle.per_write.specs.Components.{Encoding}
use Rattle.per_core.specs.declared.encode_error.EncodeError.{EncodeError}
use Rattle.per_write.specs.Faults.{IsMemory}
use Rattle.per_write.specs.Rules.{encoder_rules}
use Rattle.per_write.specs.WriterState.{Puts, Frame, WriterState, Presents, StateAppends, empty_scope, view}
use Rattle.per_write.proofs.Writing.{wrote_same, wrote_then}
use Rattle.per_enc.specs.Choices.{OpensUnplaced, OutsideChoice, restored}
use Rattle.per_enc.specs.Placed.{ClosesPlaced, EntersPlaced, LeavesRoot, OpensPlaced as OpensPlacedOf, placed_front}
use Rattle.per_enc.proofs.Placing.{two_put}
use Rattle.per_pieces.specs.Turns.{awaits, counts, Enclosing}
use Rattle.per_enc.specs.PlacedChoices.{OpensPlaced, OpensPlacedIn}
use Rattle.per_enc.specs.Rules.{encoding_rules, noting}
use Rattle.per_enc.proofs.AroundSets.{memory_noted}
use Rattle.per_enc.proofs.ChoiceScopes.{added_form, chosen_at, contents, refuses_choice, root_form}
use Rattle.per_enc.proofs.Noting.{refuses_noted}

-- inside it the encoder hasn't failed, and its variant is that of before
entered_well : (c : ItemCounts) (p : Place) (x i : WriterState) (o : OutsideChoice) → OpensPlacedOf c p x o i → (i.failed ≡ false) × (i.codec ≡ x.codec)
entered_well c (Root k) x i o h = (ap (λ (z : WriterState). z.failed) h.enters.same ∙ h.written.left, ap (λ (z : WriterState). z.codec) h.enters.same ∙ h.written.same)
entered_well c (Added k) x i o h = (ap (λ (z : WriterState). z.failed) h.enters.same ∙ h.written.left, ap (λ (z : WriterState). z.codec) h.enters.same ∙ h.written.same)

-- what passes out of it
passes : (c : ItemCounts) (p : Place) (x i : Encoding) (o : OutsideChoice) (s : Schema) → IsChoiceOf c s → OpensPlacedOf c p (noting x).writer o i.writer → PassesAlternative encoding_rules s (side_of p) (index_in p) x i
passes c p x i o (Schema.choice ps qs marker) k h =
    let w = entered_well c p (noting x).writer i.writer o h in
    record {
      room = λ e m. memory_noted e x (record { kind_is = m.kind_is; codec_is = m.codec_is ∙ w.1 });
      of_choice = λ e s v a r. refuses_noted e x (choice_schema ps marker qs) (alternative (side_of p) (index_in p) v)
          (refuses_choice e (noting x).writer i.writer ps marker qs (side_of p) (index_in p) s v w.0 w.1 a r);
    }
passes c p x i o _ k h = absurd k

pub choice_placed : (c : ItemCounts) (p : Place) (x i : Encoding) (o : OutsideChoice) (set : Enclosing) → set ≡ (noting x).set → i.set ≡ counts (awaits 1) → OpensPlacedOf c p (noting x).writer o i.writer
    → PlacedOpened encoding_rules OpensPlaced c (side_of p) (index_in p) x (Ok (o, set)) i
choice_placed c p x i o set w n h = λ s k. (
  record { opened = record { alternatives = c; place = p; is_choice = k; side = refl; index = refl; opened = h }; waits = w; inside = n },
  passes c p x i o s k h,
)

members_counted : (a : Variant) (ps : Parts) → length (members a ps) ≡ count ps
unfolding canon
members_counted a no_parts = refl
members_counted a (part t p s ps) = let e = members_counted a ps in omega arith

-- X.691 23.5 to 23.7: a root alternative after its index is the choice
root_choice : (a : Variant) (c : ItemCounts) (ps : Parts) (marker : Bool) (qs : Parts) (k : ℕ) (s : Schema) (v : Value) → IsChoiceOf c (choice_schema ps marker qs) → alternative_at ps k ≡ Some s
    → (p : ℕ) → (placed_front a c (Root k) ▹ canon a s v) p ≡ canon a (choice_schema ps marker qs) (alternative root k v) p
root_choice a c ps marker qs k s v h e p =
    let bit = extension_bit marker false in
    let index = constrained_whole a (length (members a ps)) k in
    let body = chosen (members a ps) k v in
    let same : length (members a ps) ≡ c.roots = members_counted a ps ∙ h.0 in
    ap₂ (λ (b : Bool) (n : ℕ). ((extension_bit b false ▹ constrained_whole a n k) ▹ canon a s v) p) (sym h.2) (sym same)
    ∙ then_same (bit ▹ index) (bit ▹ index) (canon a s v) body (λ q. refl) (λ q. sym (chosen_at a ps k s v e q)) p
    ∙ sym (then_assoc bit index body p)
    ∙ root_form a ps marker qs k v p

-- X.691 23.5, 23.8: an added alternative in an open type after its index is the choice
added_choice : (a : Variant) (c : ItemCounts) (ps : Parts) (marker : Bool) (qs : Parts) (k : ℕ) (s : Schema) (v : Value) (value : Option Bits) → IsChoiceOf c (choice_schema ps marker qs) → alternative_at qs k ≡ Some s → value ≡ canon a s v 0
    → (p : ℕ) → (placed_front a c (Added k) ▹ open_bits a value) p ≡ canon a (choice_schema ps marker qs) (alternative added k v) p
added_choice a c ps marker qs k s v value h e f p =
    let bit = extension_bit marker true in
    ap₂ (λ (b : Bool) (o : Option Bits). ((extension_bit b true ▹ small a k) ▹ open_bits a o) p) (sym h.2) (f ∙ sym (chosen_at a qs k s v e 0))
    ∙ sym (then_assoc bit (small a k) (open_bits a (chosen (members a qs) k v 0)) p)
    ∙ added_form a ps marker qs k v p

-- what is written inside is written after what stood in front, once what waited is open again
left_root : (f i j y : WriterState) (w : Writer) → i ≡ record f { scope = empty_scope true } → y ≡ record j { scope = f.scope } → StateAppends i w j → StateAppends f w y
left_root f i j y w e d h =
    let g = subst (λ (z : WriterState). StateAppends z w j) e h in
    subst (λ (z : WriterState). StateAppends f w z) (sym d) (record { begun = g.begun; left = g.left; same = g.same; beside = refl; appended = g.appended })

module _ (c : ItemCounts) (ps : Parts) (marker : Bool) (qs : Parts) (x i j y : WriterState) (o : OutsideChoice) (k : ℕ) (s : Schema) (v : Value) (choice : IsChoiceOf c (choice_schema ps marker qs)) (w : Presents i s v j) where
  closes_root : (result : Result (Unit {0}) EncodeError) → OpensPlacedOf c (Root k) x o i → alternative_at ps k ≡ Some s → ClosesPlaced o.before o.scope j result y
      → Written encoder_rules (choice_schema ps marker qs) (alternative root k v) x result y
  closes_root result h e d =
      let a = variant_of x.codec in
      let leaves : LeavesRoot h.front.scope j result y = subst (λ (q : OutsideChoice). ClosesPlaced q.before q.scope j result y) h.enters.waits d in
      let same : i.codec ≡ x.codec = ap (λ (z : WriterState). z.codec) h.enters.same ∙ h.written.same in
      let value : StateAppends i (canon a s v) j = subst (λ (b : Codec). StateAppends i (canon (variant_of b) s v) j) same w in
      let all = wrote_then x h.front y (placed_front a c (Root k)) (canon a s v) h.written (left_root h.front i j y (canon a s v) h.enters.same leaves.same value) in
      go result leaves.ok (wrote_same x y (placed_front a c (Root k) ▹ canon a s v) (canon a (choice_schema ps marker qs) (alternative root k v)) (root_choice a c ps marker qs k s v choice e) all)
    where
      go : (r : Result (Unit {0}) EncodeError) → IsOk r → Presents x (choice_schema ps marker qs) (alternative root k v) y → Written encoder_rules (choice_schema ps marker qs) (alternative root k v) x r y
      go (Ok u) h p = p
      go (Err e) h p = absurd (let k : false ≡ true = h in cc)

  closes_added : (result : Result (Unit {0}) EncodeError) → OpensPlacedOf c (Added k) x o i → alternative_at qs k ≡ Some s → ClosesPlaced o.before o.scope j result y
      → Written encoder_rules (choice_schema ps marker qs) (alternative added k v) x result y
  closes_added result h e d =
      let a = variant_of x.codec in
      let f = h.front in
      let same : j.codec ≡ f.codec = w.same ∙ ap (λ (z : WriterState). z.codec) h.enters.same in
      let back : restored j f.pieces f.scope ≡ f = ap₂ (λ (b : Bool) (q : Codec). record { pieces = f.pieces; failed = b; codec = q; scope = f.scope }) (w.left ∙ sym h.written.left) same in
      let value : view j 0 ≡ canon a s v 0 = contents f i j o s v h.enters w 0 (omega arith) ∙ ap (λ (b : Codec). canon (variant_of b) s v 0) h.written.same in
      let puts : Puts IsMemory (open_bits a (view j 0)) f result y =
      subst (λ (b : Codec). Puts IsMemory (open_bits (variant_of b) (view j 0)) f result y) (same ∙ h.written.same)
      (subst (λ (z : WriterState). Puts IsMemory (open_bits (variant_of j.codec) (view j 0)) z result y) back
      (subst (λ (q : OutsideChoice). ClosesPlaced q.before q.scope j result y) h.enters.waits d)) in
      go result value (two_put x f y (placed_front a c (Added k)) (open_bits a (view j 0)) result h.written puts)
    where
      go : (r : Result (Unit {0}) EncodeError) → view j 0 ≡ canon (variant_of x.codec) s v 0 → Puts IsMemory (placed_front (variant_of x.codec) c (Added k) ▹ open_bits (variant_of x.codec) (view j 0)) x r y
          → Written encoder_rules (choice_schema ps marker qs) (alternative added k v) x r y
      go (Ok u) q p =
          let a = variant_of x.codec in
          wrote_same x y (placed_front a c (Added k) ▹ open_bits a (view j 0)) (canon a (choice_schema ps marker qs) (alternative added k v)) (added_choice a c ps marker qs k s v (view j 0) choice e q) p.ok
      go (Err d) q p = inl p.err

-- a choice is closed in which its alternative was written
pub choice_closed : (x i j y : WriterState) (o : OutsideChoice) (t : Schema) (d : Side) (k : ℕ) (s : Schema) (v : Value) (result : Result (Unit {0}) EncodeError) → OpensPlacedIn t d k x o i → alternative_in t d k ≡ Some s → Presents i s v j
    → ClosesPlaced o.before o.scope j result y → Written encoder_rules t (alternative d k v) x result y
choice_closed x i j y o (Schema.choice ps qs marker) d k s v result h e w c = go h.place h.side h.index h.opened
  where
    go : (p : Place) → side_of p ≡ d → index_in p ≡ k → OpensPlacedOf h.alternatives p x o i → Written encoder_rules (choice_schema ps marker qs) (alternative d k v) x result y
    go (Root n) f g u =
        let at : alternative_in (choice_schema ps marker qs) root n ≡ Some s = ap₂ (alternative_in (choice_schema ps marker qs)) f g ∙ e in
        subst (λ (z : Side). Written encoder_rules (choice_schema ps marker qs) (alternative z k v) x result y) f
        (subst (λ (z : ℕ). Written encoder_rules (choice_schema ps marker qs) (alternative root z v) x result y) g
        (closes_root h.alternatives ps marker qs x i j y o n s v h.is_choice w result u at c))
    go (Added n) f g u =
        let at : alternative_in (choice_schema ps marker qs) added n ≡ Some s = ap₂ (alternative_in (choice_schema ps marker qs)) f g ∙ e in
        subst (λ (z : Side). Written encoder_rules (choice_schema ps marker qs) (alternative z k v) x result y) f
        (subst (λ (z : ℕ). Written encoder_rules (choice_schema ps marker qs) (alternative added z v) x result y) g
        (closes_added h.alternatives ps marker qs x i j y o n s v h.is_choice w result u at c))
choice_closed x i j y o _ d k s v result h e w c = absurd h.is_choice

-- an error leaves the encoder failed, and the variant stays
pub closes_well : (before : Option Pieces) (scope : Frame) (x y : WriterState) (result : Result (Unit {0}) EncodeError) → ClosesPlaced before scope x result y → OnErr result (y.failed ≡ true) × (y.codec ≡ x.codec)
closes_well None scope x y (Ok u) h = (tt, ap (λ (z : WriterState). z.codec) h.same)
closes_well None scope x y (Err e) h = absurd (let k : false ≡ true = h.ok in cc)
closes_well (Some before) scope x y result h = (h.fails, h.kept)
