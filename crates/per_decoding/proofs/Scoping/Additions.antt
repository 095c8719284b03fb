-- The laws of the decoder's open types: an addition is the value in its open type, up to its end (X.691 11.2, 19.9).
use Rattle.std.proofs.Common.{◌≡◌, ◌∙◌, ◌≤◌, inl, inr, refl, sym, ap, subst, ℕ, true, false, length, length-append}
use Rattle.std.proofs.Common.{arith, Option, Some, None}
use Rattle.rasn_types.specs.Bits.{unpack}
use Rattle.rasn_types.specs.Values.{Value}
use Rattle.rasn_schema.specs.Schemas.{Schema}
use Rattle.rasn_traits.specs.AdditionsRead.{AdditionsWell}
use Rattle.per_core.specs.Basic.{OpenOf, basic}
use Rattle.per_core.specs.Spellings.{Took}
use Rattle.per_core.specs.declared.decode_error.DecodeError.{DecodeError}
use Rattle.per_core.specs.declared.decode_error.DecodeErrorKind.{DecodeErrorKind}
use Rattle.per_core.specs.declared.decode_error.DecodeErrorKind.TheVariants.{AlreadyFailed, OutOfMemory}
use Rattle.per_core.specs.declared.ends.Surplus.{Surplus}
use Rattle.per_core.specs.declared.ends.Surplus.TheVariants.{Missing, NonzeroOctet, NonzeroSpareBits, ExtraOctets}
use Rattle.per_read.specs.Ends.{EndsAs}
use Rattle.per_core.specs.Ends.{IsOfEnd, kind_of}
use Rattle.per_read.proofs.Opened.{open_took, took_open}
use Rattle.per_decoding.specs.Additions.{Adds, ClosesAddition, OpensAddition, OutsideAddition, with_outside_addition}
use Rattle.per_decoding.specs.Faults.{Fault, IsInNext, in_open, IsOfNext, Misadds, UnendedAddition, refusal}
use Rattle.per_core.specs.ReadingFaults.{IsInBits, IsInOpen, in_contents, at_their_end}
use Rattle.per_decoding.proofs.Scoping.Records.{IsNew, in_bits, is_new}
use Rattle.per_decoding.specs.Rules.{plain_rules}
use Rattle.per_decoding.proofs.Scoping.Spelled.{added, spelled}
use Rattle.per_decoding.specs.State.{State, Spells, settings_of, with_bits, Source}
use Rattle.per_decoding.proofs.Scoping.Tails.{asks_agree}

-- why contents don't end doesn't say that the decoder had failed
pub new_why : (why : Surplus) → IsNew (kind_of why)
new_why (Missing bits) = tt
new_why NonzeroOctet = tt
new_why NonzeroSpareBits = tt
new_why (ExtraOctets octets) = tt

pub of_next : (k : DecodeErrorKind) (c : Schema) (s : State) → IsNew k → IsInNext k c s → IsOfNext k c s
of_next AlreadyFailed c s n h = absurd n
of_next _ c s n h = h

-- inside an open type
module _ {s i : State} {w : OutsideAddition} (a : OpensAddition s w i) where
  middle_settings : settings_of a.middle ≡ settings_of s
  middle_settings = ap settings_of a.asks.same

  same_settings : settings_of i ≡ settings_of s
  same_settings = ap settings_of a.same ∙ middle_settings

  unfailed : i.failed ≡ false
  unfailed = ap (λ z. z.failed) a.same ∙ ap (λ z. z.failed) a.asks.same ∙ a.asks.live

  same_codec : i.codec ≡ s.codec
  same_codec = ap (λ z. z.codec) a.same ∙ ap (λ z. z.codec) a.asks.same

  -- a fault in the open type is one of the addition
  of_open : (c : Schema) (e : DecodeError) → e.codec ≡ i.codec → IsNew e.kind
      → IsInOpen (settings_of s) e.kind c a.middle.bits → Misadds c e s
  of_open c e k n h = record { codec = k ∙ same_codec; stands = of_next e.kind c s n (in_open a.asks h) }

  in_addition_of : (c : Schema) (e : DecodeError) → Fault c e i → Misadds c e s
  in_addition_of c e f =
      let h = in_bits e.kind c i unfailed f.stands in
      of_open c e f.codec (is_new e.kind c i unfailed f.stands)
      (in_contents a.octets a.took (subst (λ z. IsInBits (settings_of s) e.kind c z) a.contents
      (subst (λ z. IsInBits z e.kind c i.bits) same_settings h)))

  -- the value in the contents
  value_in : (c : Schema) (v : Value) (j : State) → Spells c i v j
      → Took (basic (settings_of s) c v) (unpack a.octets) j.bits
  value_in c v j h = subst (λ z. Took (basic (settings_of s) c v) z j.bits) a.contents
      (subst (λ z. Took (basic z c v) i.bits j.bits) same_settings h.took)

  at_end_of : (c : Schema) (v : Value) (e : DecodeError) (j : State) → Spells c i v j → UnendedAddition w e j
      → Misadds c e s
  at_end_of c v e j h u =
      let k : settings_of j ≡ settings_of s = ap settings_of h.same ∙ same_settings in
      let n : w.total ≡ length (unpack a.octets) = ap (λ z. z.total) a.waits in
      let q = value_in c v j h in
      let less : length j.bits ≤ w.total = omega (arith, n, ap length q.joins, length-append q.front j.bits) in
      let y : IsOfEnd (settings_of j) j.bits w.total e.kind = u.stands less in
      let x : IsOfEnd (settings_of s) j.bits (length (unpack a.octets)) e.kind
      = subst (λ (z : ℕ). IsOfEnd (settings_of s) j.bits z e.kind) n
      (subst (λ z. IsOfEnd z j.bits w.total e.kind) k y) in
      of_open c e (u.codec ∙ ap (λ z. z.codec) h.same) (subst IsNew (sym y.names) (new_why y.why))
      (at_their_end a.octets v a.took q x)

  -- what is the same inside comes back after the open type
  given_back : with_outside_addition i w ≡ with_bits a.middle w.bits
  given_back = ap (λ z. with_outside_addition z w) a.same ∙ ap (λ z. with_outside_addition a.middle z) a.waits

  pub read_of : (c : Schema) (v : Value) (j t : State) → Spells c i v j → ClosesAddition j w t → Adds c s (Some v) t
  read_of c v j t h d =
      let k : settings_of j ≡ settings_of s = ap settings_of h.same ∙ same_settings in
      let n : w.total ≡ length (unpack a.octets) = ap (λ z. z.total) a.waits in
      let x : EndsAs (settings_of s) j.bits (length (unpack a.octets)) =
      subst (λ (z : ℕ). EndsAs (settings_of s) j.bits z) n (subst (λ z. EndsAs z j.bits w.total) k d.ends) in
      let e : t.bits ≡ w.bits = ap (λ z. z.bits) d.same in
      added a.middle a.asks
      (subst (λ z. Took (OpenOf (settings_of s) (basic (settings_of s) c) v) a.middle.bits z) (sym e)
      (open_took (settings_of s) (basic (settings_of s) c v) a.octets a.took j.bits (value_in c v j h) x))
      (d.same ∙ ap (λ z. with_outside_addition z w) h.same ∙ given_back ∙ ap (λ z. with_bits a.middle z) (sym e))

  pub back_of : (c : Schema) (r : Option Value) (t : State) → Adds c s r t
      → (v : Value) × (j : State) × (r ≡ Some v) × Spells c i v j × ClosesAddition j w t
  back_of c None t (inl h) = let e = (asks_agree s (Some true) (Some false) a.middle t a.asks h).0 in absurd cc
  back_of c None t (inr h) = let e = (asks_agree s (Some true) None a.middle t a.asks h).0 in absurd cc
  back_of c (Some v) t h =
      let m = (asks_agree s (Some true) (Some true) h.middle a.middle h.asks a.asks).1 in
      let x : Took (OpenOf (settings_of s) (basic (settings_of s) c) v) a.middle.bits t.bits =
      subst (λ (z : State). Took (OpenOf (settings_of s) (basic (settings_of s) c) v) z.bits t.bits) m h.took in
      let q = took_open (settings_of s) (basic (settings_of s) c v) a.octets a.took t.bits x in
      let n : w.total ≡ length (unpack a.octets) = ap (λ z. z.total) a.waits in (
        v,
        with_bits i q.1,
        refl,
        spelled unfailed (subst (λ z. Took (basic z c v) i.bits q.1) (sym same_settings)
            (subst (λ z. Took (basic (settings_of s) c v) z q.1) (sym a.contents) q.2)) refl,
        record {
          live = unfailed;
          ends = subst (λ z. EndsAs z q.1 w.total) (sym same_settings)
              (subst (λ (z : ℕ). EndsAs (settings_of s) q.1 z) (sym n) q.3);
          same = h.same ∙ ap (λ z. with_bits z t.bits) m ∙ ap (λ z. with_bits a.middle z) (sym q.0) ∙ sym given_back;
        },
      )

-- An addition is what is in its open type, whatever a decoder keeps of what waits outside: of it and of the bits in
-- which those left stand, it is told what waits.
pub additions_well : {O : Type 0} (outside : Source → O → OutsideAddition)
    → AdditionsWell plain_rules (λ o e s. UnendedAddition (outside s.source o) e s)
    (λ s o i. OpensAddition s (outside i.source o) i) (λ s o t. ClosesAddition s (outside s.source o) t)
additions_well outside = record {
  inside = λ s o i a. unfailed a;
  level = λ s o i a. ap (λ z. z.levels) a.same ∙ ap (λ z. z.levels) a.asks.same;
  room = λ s o i e a m. m ∙ ap (λ z. refusal OutOfMemory z) a.same ∙ ap (λ z. refusal OutOfMemory z) a.asks.same;
  in_addition = λ c s o i e a f. in_addition_of a c e f;
  at_end = λ c s i j o v e a h u. at_end_of a c v e j h
      (subst (λ z. UnendedAddition (outside z o) e j) (ap (λ z. z.source) h.same) u);
  addition_read = λ c s i j t o v a h d. read_of a c v j t h
      (subst (λ z. ClosesAddition j (outside z o) t) (ap (λ z. z.source) h.same) d);
  addition_back = λ c s i t o r a h. let b = back_of a c r t h in
      (b.0, b.1, b.2, b.3, subst (λ z. ClosesAddition b.1 (outside z o) t) (sym (ap (λ z. z.source) b.3.same)) b.4);
}
