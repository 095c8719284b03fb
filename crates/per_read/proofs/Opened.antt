-- An open type is its octets, and a complete encoding in them (X.691 11.2).
use Rattle.std.proofs.Common.{◌≡◌, ◌<◌, sym, ap, subst, ℕ, zero, suc, ◌^◌, List, [], ◌∷◌, ◌++◌, length, arith}
use Rattle.rasn_types.specs.Bits.{Bits, AreOctets, unpack}
use Rattle.rasn_types.proofs.Bits.{number_below}
use Rattle.per_core.specs.Basic.{Fills, InFragments, Octets, OneByOne, Open, octet}
use Rattle.per_core.specs.Spellings.{Settings, Spelling, Took, NoneIn}
use Rattle.per_core.proofs.SpellingsAgree.{Agree}
use Rattle.per_core.proofs.LengthForms.{same_octets}
use Rattle.per_core.proofs.TakenInTurn.{took_agree, took_map}
use Rattle.per_read.specs.Ends.{EndsAs}
use Rattle.per_read.proofs.CompleteEncodings.{fills_took, took_fills}

-- octets that are read are below 256
both_octets : (os qs : List ℕ) → AreOctets os → AreOctets qs → AreOctets (os ++ qs)
both_octets [] qs h k = k
both_octets (o ∷ os) qs h k = (h.0, both_octets os qs h.1 k)

octets_below : (os : List ℕ) (p : ℕ) (b : Bits) → OneByOne octet os p b → AreOctets os
octets_below [] p b h = tt
octets_below (o ∷ os) p b h =
    let w : 2 ^ length h.front ≡ 256 = ap (λ (n : ℕ). 2 ^ n) h.is_front.wide in
    let l : o < 256 = omega (arith, h.is_front.means, number_below h.front) in
    (l, octets_below os _ h.rest h.is_rest)

fragments_below : (a : Settings) (k : ℕ) (os : List ℕ) (p : ℕ) (b : Bits) → InFragments a octet k os p b → AreOctets os
fragments_below a zero os p b h = octets_below os _ _ h.is_rest.is_rest
fragments_below a (suc k) os p b h =
    let w = h.spelled.is_rest.is_rest in
    subst AreOctets (sym h.all) (both_octets h.these h.others (octets_below h.these _ _ w.is_front) (fragments_below a k h.others _ _ w.is_rest))

pub are_octets : (a : Settings) (os : List ℕ) {s t : Bits} → Took (Octets a os) s t → AreOctets os
are_octets a os h = fragments_below a h.spelled.spelled.fragments os _ _ h.spelled.spelled.spelled

module _ (a : Settings) (f : Spelling) (os : List ℕ) {s m : Bits} (took : Took (Octets a os) s m) where
  -- what is read of its octets, and ends them, is what the open type is of
  pub open_took : (t : Bits) → Took f (unpack os) t → EndsAs a t (length (unpack os)) → Took (Open a (Fills a f)) s m
  open_took t k e = took_map (λ p b x. record { octets = os; are = fills_took a f os t (are_octets a os took) k e; spelled = x }) took

  -- and back
  pub took_open : (u : Bits) → Took (Open a (Fills a f)) s u → (m ≡ u) × (t : Bits) × Took f (unpack os) t × EndsAs a t (length (unpack os))
  took_open u b =
      let x = b.spelled in
      let c : Took (Octets a x.octets) s u = record { front = b.front; joins = b.joins; spelled = x.spelled } in
      let r = took_agree (same_octets a os x.octets) took c in
      let q = took_fills a f os (subst (λ z. Fills a f z) (sym r.0) x.are) in (r.1, q.0, q.1, q.2)

  -- where what is read of them doesn't end them, the open type is of nothing
  pub unended : {P : Type 0} {g : Spelling} {t : Bits} → Agree P f g → Took f (unpack os) t → (EndsAs a t (length (unpack os)) → ⊥) → (u : Bits) → Took (Open a (Fills a g)) s u → ⊥
  unended {g = g} w k none u b =
      let x = b.spelled in
      let c : Took (Octets a x.octets) s u = record { front = b.front; joins = b.joins; spelled = x.spelled } in
      let r = took_agree (same_octets a os x.octets) took c in
      let q = took_fills a g os (subst (λ z. Fills a g z) (sym r.0) x.are) in
      let e = took_agree w k q.1 in none (subst (λ z. EndsAs a z (length (unpack os))) (sym e.1) q.2)

-- where there are no octets, there is no open type
pub no_open : (a : Settings) (contents : List ℕ → Type 0) {s : Bits} → NoneIn (Octets a) s → (t : Bits) → Took (Open a contents) s t → ⊥
no_open a contents none t b = none b.spelled.octets t (record { front = b.front; joins = b.joins; spelled = b.spelled.spelled })
