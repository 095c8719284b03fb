-- Octets that are skipped, after one length that counts them all (X.691 11.9, 17).
use Rattle.std.proofs.Common.{◌≡◌, ◌∙◌, ◌<◌, ◌*◌, ◌^◌, ℕ, true, false, List, ◌++◌, length, length-append, refl, sym, ap, arith}
use Rattle.rasn_types.specs.Bits.{Bits}
use Rattle.rasn_constraints.specs.Bounds.{allows, Size}
use Rattle.per_core.specs.Basic.{OneByOne, octet}
use Rattle.per_core.specs.Counts.{octet_items}
use Rattle.per_core.specs.Spellings.{Settings, Spelling, Took, NoneIn}
use Rattle.per_core.specs.declared.items.Item.TheVariants.{Octet}
use Rattle.per_core.proofs.TakenInTurn.{then_took, took_map}
use Rattle.per_read.specs.Items.{HasCount, TookItems, items_below, sized_items, unconstrained_items}
use Rattle.per_core.specs.Lengths.{LengthOf, count_of}
use Rattle.per_read.specs.Sizes.{items_under}
use Rattle.per_core.specs.declared.lengths.Length.TheVariants.{Last, Fragment}
use Rattle.per_read.proofs.Fields.{when_took}
use Rattle.per_read.proofs.OneByOne.{items_within, octets_skipped}
use Rattle.per_read.proofs.FragmentItems.{first_part, items_begin, items_end, no_items_length, no_items_short, one_length}
use Rattle.per_read.proofs.SizeForms.{of_sized, one_size}

-- nothing is held of them
abbrev pub Nothing : Unit {0} → Unit {0} → List ℕ → Type 0
Nothing before after octets = Unit {0}

-- so many octets were skipped
abbrev pub Skips : (List ℕ → Spelling) → ℕ → Bits → Bits → Type 0
Skips form n s t = TookItems Nothing form n tt tt s t

pub skips : (n : ℕ) (f : Bits) {s t : Bits} → s ≡ f ++ t → length f ≡ 8 * n → Skips (OneByOne octet) n s t
skips n f joins wide = items_within (octets_skipped tt tt n f wide) joins

pub counted : {form : List ℕ → Spelling} {n : ℕ} {s t : Bits} → Skips form n s t → HasCount (λ os. Took (form os) s t) n
counted h = record { octets = h.codes; many = h.count; held = h.took }

pub uncounted : {form : List ℕ → Spelling} {n : ℕ} {s t : Bits} → HasCount (λ os. Took (form os) s t) n → Skips form n s t
uncounted h = record { codes = h.octets; count = h.many; added = record { behind = λ start xs i. tt }; took = h.held }

-- fewer than some octets are octets
pub none_below : {n : ℕ} {form : List ℕ → Spelling} {s : Bits} → NoneIn form s → NoneIn (items_below n form) s
none_below none xs t b = none xs t (when_took b).1

module _ (a : Settings) {s : Bits} where
  -- after an unconstrained length
  pub no_length_no_octets : NoneIn (LengthOf a) s → NoneIn (items_below 16384 (unconstrained_items a Octet)) s
  no_length_no_octets none = none_below (no_items_length (items_begin Nothing a 8 s tt) octet_items none)

  -- a fragment has as many
  pub fragment_no_octets : (n : ℕ) {m : Bits} → Took (LengthOf a (Fragment n)) s m → NoneIn (items_below 16384 (unconstrained_items a Octet)) s
  fragment_no_octets n {m} b xs t c =
      let h = when_took c in
      let p = first_part octet a xs s t (took_map (λ q x y. y.spelled) h.1) in
      let e = one_length a p.head (Fragment n) s p.behind m p.is_length b in
      let f = (then_took b).2.spelled in
      omega (arith, h.0, ap length p.all, length-append p.these p.others, p.many, ap count_of e.0, f.is, f.some)

  pub short_no_octets : (n : ℕ) {m : Bits} → Took (LengthOf a (Last n)) s m → length m < 8 * n → NoneIn (items_below 16384 (unconstrained_items a Octet)) s
  short_no_octets n {m} b h = none_below (no_items_short (items_begin Nothing a 8 s tt) octet_items (Last n) m b (λ few. h))

  pub last_octets : (n : ℕ) {m t : Bits} → Took (LengthOf a (Last n)) s m → n < 2 ^ 64 → Skips (OneByOne octet) n m t → Skips (unconstrained_items a Octet) n s t
  last_octets n b few h = items_end (items_begin Nothing a 8 s tt) octet_items n b refl refl (omega arith) few h

  -- under a size
  module _ (size : Size) where
    pub none_sized_below : {n : ℕ} → NoneIn (items_below n (items_under a size Octet)) s → NoneIn (items_below n (sized_items a size Octet)) s
    none_sized_below none xs t b = let h = when_took b in none xs t (took_map (λ p c i. (h.0, i)) (of_sized a octet_items octet xs size h.1))

    pub other_count : {n : ℕ} {t : Bits} → allows size n ≡ false → Skips (items_under a size Octet) n s t → NoneIn (sized_items a size Octet) s
    other_count {n} {t} h b xs v c =
        let e : length xs ≡ length b.codes = one_size a size.least size.most octet_items 8 xs b.codes s v t (of_sized a octet_items octet xs size c) b.took in
        let g : true ≡ false = sym c.spelled.allowed ∙ ap (allows size) (e ∙ b.count) ∙ h in absurd cc
