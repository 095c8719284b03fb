-- What opening and closing a record with additions, and the open type of one, take, and why they refuse (X.691 19.7 to 19.9).
use Rattle.std.proofs.Common.{◌≡◌, ◌⊎◌, inl, inr, refl, sym, ◌∙◌, ap, subst, ℕ, suc, true, false, [], Option, Some, None, length, arith}
use Rattle.std.specs.Prelude.{Ok, Err, Result}
use Rattle.rasn_types.specs.Values.{Value}
use Rattle.rasn_schema.specs.Fields.{shapes_from}
use Rattle.rasn_schema.specs.Schemas.{Schema, Parts, no_parts, part, count}
use Rattle.rasn_traits.specs.AdditionsRead.{ReadsNoAddition}
use Rattle.per_core.specs.Basic.{Fills, Octets, Unknown, basic}
use Rattle.per_core.specs.Spellings.{Took, NoneIn}
use Rattle.per_core.proofs.TakenInTurn.{then_took, took_agree, took_then}
use Rattle.per_core.specs.BitFieldFaults.{IsOfUnconstrained}
use Rattle.per_read.proofs.OfFields.{unconstrained_tested}
use Rattle.per_core.specs.declared.decode_error.DecodeError.{DecodeError}
use Rattle.per_core.specs.declared.decode_error.DecodeErrorKind.{DecodeErrorKind}
use Rattle.per_core.specs.declared.decode_error.DecodeErrorKind.TheVariants.{MissingTag, OutOfMemory}
use Rattle.per_core.specs.AdditionFaults.{IsOfUnknown, skipped_unknown, Shown, Extension, ahead}
use Rattle.per_read.proofs.Opened.{no_open}
use Rattle.per_decoding.proofs.Scoping.Additions.{of_next}
use Rattle.per_decoding.specs.Additions.{Adds, Asks, OpensAddition, OpensContents, OutsideAddition}
use Rattle.per_core.specs.ReadingFaults.{IsInTail, after_bitmap, in_bitmap, in_octets, in_unknown}
use Rattle.per_decoding.specs.Faults.{in_open, refusal, unread, unskipped, IsOfNext, Unended}
use Rattle.per_decoding.specs.Rules.{plain_rules}
use Rattle.per_decoding.specs.Scopes.{Closes, OutsideRecord, with_outside_record}
use Rattle.per_decoding.specs.State.{State, settings_of, with_bits}
use Rattle.per_decoding.proofs.Scoping.Tails.{asks_agree, shown_agree, tested_new}
use Rattle.per_decoding.specs.Sources.{flags_in}
use Rattle.per_de.specs.Steps.{IsOfBitmap, IsOfOctets, IsUnskipped, RefusedAs, SkipsRest, SkipsUnknown, TakesFlags, Unasked}
use Rattle.per_decoding.specs.declared.source.Flags.{Flags}

-- how many parts there are
pub shapes_counted : (i : ℕ) (ps : Parts) → length (shapes_from i ps) ≡ count ps
shapes_counted i no_parts = refl
shapes_counted i (part t q s ps) = ap suc (shapes_counted (suc i) ps) ∙ omega arith

-- a record can't end
abbrev pub Endless : State → OutsideRecord → DecodeError → Type 0
Endless s w e = (e ≡ refusal OutOfMemory s) ⊎ (((u : State) → Closes s w u → ⊥) × Unended e s)

pub root_unread : (s : State) (w : OutsideRecord) (e : DecodeError) → e ≡ refusal MissingTag s → (s.presences ≡ [] → ⊥) → Endless s w e
root_unread s w e i none = inr ((λ u h. none h.done), subst (λ z. Unended z s) (sym i) (record { codec = refl; stands = unread refl (λ p q. none p) }))

pub addition_unread : (s : State) (w : OutsideRecord) (e : DecodeError) → e ≡ refusal MissingTag s → (s.expected ≡ 0 → ⊥) → Endless s w e
addition_unread s w e i none = inr ((λ u h. none h.none), subst (λ z. Unended z s) (sym i) (record { codec = refl; stands = unread refl (λ p q. none q) }))

-- no bitmap is where one is ahead
bitmap_unread : (s t : State) (w : OutsideRecord) (e : DecodeError) → s.presences ≡ [] → s.expected ≡ 0 → s.extension ≡ ahead → RefusedAs (IsOfBitmap s) s e t → Endless s w e
bitmap_unread s t w e done none x r = go r.kind r.is r.because
  where
    go : (d : DecodeErrorKind) → e ≡ refusal d s → IsOfBitmap s d → Endless s w e
    go d i (inl o) = inl (i ∙ ap (λ z. refusal z s) o)
    go d i (inr o) = inr (
      (λ u c. let q = then_took c.skipped in o.1 c.flags q.0 (subst (λ (z : Extension). Took (Shown (settings_of s) z c.flags) s.bits q.0) x q.1)),
      subst (λ z. Unended z s) (sym i) (record {
        codec = refl;
        stands = unskipped done none (subst (λ (z : Extension). IsInTail (settings_of s) d no_parts z s.bits) (sym x) (in_bitmap o.0 o.1));
      }),
    )

-- an unknown addition isn't there
unknown_unread : (s t : State) (w : OutsideRecord) (e : DecodeError) → s.presences ≡ [] → s.expected ≡ 0 → RefusedAs (IsUnskipped s) s e t → Endless s w e
unknown_unread s t w e done none r =
    let h = r.because in
    inr (
      (λ u c. let q = then_took c.skipped in
          let g = took_agree (shown_agree (settings_of s) s.extension c.flags h.flags) q.1 h.shows in
          h.none tt u.bits (subst (λ z. Took (Unknown (settings_of s) z) h.left u.bits) g.0 (subst (λ z. Took (Unknown (settings_of s) c.flags) z u.bits) g.1 q.2))),
      subst (λ z. Unended z s) (sym r.is) (record { codec = refl; stands = unskipped done none (after_bitmap h.flags h.shows (in_unknown h.says h.none)) }),
    )

-- what is left of the additions, after the presence bits that are shown
pub rest_skipped : (s n : State) (flags : Flags) (t : State) (result : Result (Unit {0}) DecodeError) → TakesFlags s (Ok flags) n → SkipsUnknown (flags_in n.source.bits flags) n result t → SkipsRest s result t
rest_skipped s n flags t result h r = go result r
  where
    same_flags : flags_in n.source.bits flags ≡ flags_in s.source.bits flags
    same_flags = ap (λ z. flags_in z.source.bits flags) h.1

    settings_kept : settings_of n ≡ settings_of s
    settings_kept = ap settings_of h.1

    go : (result : Result (Unit {0}) DecodeError) → SkipsUnknown (flags_in n.source.bits flags) n result t → SkipsRest s result t
    go (Ok u) r =
        let k : Took (Unknown (settings_of s) (flags_in s.source.bits flags)) n.bits t.bits = subst (λ z. Took (Unknown z (flags_in s.source.bits flags)) n.bits t.bits) settings_kept (subst (λ z. Took (Unknown (settings_of n) z) n.bits t.bits) same_flags r.0) in
        (flags_in s.source.bits flags, took_then h.0 k, r.1 ∙ ap (λ z. with_bits z t.bits) h.1)
    go (Err e) r =
        let no : NoneIn (skipped_unknown (flags_in s.source.bits flags) (settings_of s)) n.bits = subst (λ z. NoneIn (skipped_unknown (flags_in s.source.bits flags) z) n.bits) settings_kept (subst (λ z. NoneIn (skipped_unknown z (settings_of n)) n.bits) same_flags r.because.1) in
        let f : IsOfUnknown (flags_in s.source.bits flags) (settings_of s) n.bits r.kind = subst (λ z. IsOfUnknown (flags_in s.source.bits flags) z n.bits r.kind) settings_kept (subst (λ z. IsOfUnknown z (settings_of n) n.bits r.kind) same_flags r.because.0) in
        inr (record {
          kind = r.kind;
          is = r.is ∙ ap (λ z. refusal r.kind z) h.1;
          because = record { flags = flags_in s.source.bits flags; left = n.bits; shows = h.0; says = f; none = no };
          failed = r.failed;
          codec = r.codec ∙ ap (λ z. z.codec) h.1;
        })

-- they can't be skipped
pub rest_unread : (s m t : State) (w : OutsideRecord) (e : DecodeError) → m ≡ s → s.presences ≡ [] → s.expected ≡ 0 → SkipsRest m (Err e) t → Endless s w e
rest_unread s m t w e same done none h = go (subst (λ z. SkipsRest z (Err e) t) same h)
  where
    go : SkipsRest s (Err e) t → Endless s w e
    go (inl r) = bitmap_unread s t w e done none r.0 r.1
    go (inr r) = unknown_unread s t w e done none r

-- they were skipped
pub record_closed : (s m u t : State) (w : OutsideRecord) → m ≡ s → s.presences ≡ [] → s.expected ≡ 0 → s.failed ≡ false → SkipsRest m (Ok tt) u → t ≡ with_outside_record u w → Closes s w t
record_closed s m u t w same done none live h e =
    let r : SkipsRest s (Ok tt) u = subst (λ z. SkipsRest z (Ok tt) u) same h in
    subst (λ z. Closes s w z) (sym e) (record { live = live; done = done; none = none; flags = r.0; skipped = r.1; same = ap (λ z. with_outside_record z w) r.2 })

-- the open type of the next addition
pub opens_addition : (s m : State) (w : OutsideAddition) (i : State) → Asks s (Some true) m → OpensContents m w i → OpensAddition s w i
opens_addition s m w i a h = record { middle = m; asks = a; octets = h.octets; took = subst (λ z. Took (Octets z h.octets) m.bits w.bits) (ap settings_of a.same) h.took; contents = h.enters.inside; waits = h.enters.waits; same = h.enters.same }

-- no addition can be asked for
pub no_addition : (s : State) (e : DecodeError) → (e ≡ refusal OutOfMemory s) ⊎ Unasked e s → (e ≡ refusal OutOfMemory s) ⊎ ReadsNoAddition plain_rules e s
no_addition s e (inl h) = inl h
no_addition s e (inr h) = inr (record { nothing = λ c r t a. go c r t a; stands = λ c. record { codec = h.codec; stands = h.stands c } })
  where
    go : (c : Schema) (r : Option Value) (t : State) → Adds c s r t → ⊥
    go c (Some v) t a = h.none (Some true) a.middle a.asks
    go c None t (inl a) = h.none (Some false) t a
    go c None t (inr a) = h.none None t a

-- no open type is where one is shown
pub no_contents : (s m : State) (e : DecodeError) (t : State) → Asks s (Some true) m → RefusedAs (IsOfOctets m) m e t → (e ≡ refusal OutOfMemory s) ⊎ ReadsNoAddition plain_rules e s
no_contents s m e t asks h = go h.kind h.is h.because
  where
    at : (d : DecodeErrorKind) → refusal d m ≡ refusal d s
    at d = ap (λ z. refusal d z) asks.same

    same : settings_of m ≡ settings_of s
    same = ap settings_of asks.same

    nothing : NoneIn (Octets (settings_of s)) m.bits → (c : Schema) (r : Option Value) (u : State) → Adds c s r u → ⊥
    nothing none c (Some v) u a =
        let g = (asks_agree s (Some true) (Some true) a.middle m a.asks asks).1 in
        no_open (settings_of s) (Fills (settings_of s) (basic (settings_of s) c v)) (subst (λ (z : State). NoneIn (Octets (settings_of s)) z.bits) (sym g) none) u.bits a.took
    nothing none c None u (inl a) = let g = (asks_agree s (Some false) (Some true) u m a asks).0 in absurd cc
    nothing none c None u (inr a) = let g = (asks_agree s None (Some true) u m a asks).0 in absurd cc

    go : (d : DecodeErrorKind) → e ≡ refusal d m → IsOfOctets m d → (e ≡ refusal OutOfMemory s) ⊎ ReadsNoAddition plain_rules e s
    go d i (inl o) = inl (i ∙ ap (λ z. refusal z m) o ∙ at OutOfMemory)
    go d i (inr o) =
        let none : NoneIn (Octets (settings_of s)) m.bits = subst (λ z. NoneIn (Octets z) m.bits) same o.1 in
        let f : e ≡ refusal d s = i ∙ at d in
        inr (record {
          nothing = nothing none;
          stands = λ c. record {
            codec = ap (λ z. z.codec) f;
            stands = subst (λ (z : DecodeError). IsOfNext z.kind c s) (sym f) (of_next d c s (tested_new d (unconstrained_tested d o.0)) (in_open asks (in_octets (subst (λ z. IsOfUnconstrained z 8 m.bits d) same o.0) none)));
          };
        })
