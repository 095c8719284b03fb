-- Types in which no other stands.
use Rattle.std.proofs.Common.{◌≡◌, refl, ap, ◌∙◌, ℕ, ◌≤◌, Bool, true, false, List, length, Option, Some, None}
use Rattle.std.specs.Prelude.{is_some, option_map, ℤ}
use Rattle.std.specs.Global.{Vec}
use Rattle.rasn_constraints.specs.Bounds.{Bounds, Size, unbounded}
use Rattle.rasn_constraints.specs.Constraints.{bounds_of, permitted, size_between}
use Rattle.rasn_constraints.specs.declared.constraints.Bounded.{Bounded}
use Rattle.rasn_constraints.specs.declared.constraints.Extensible.{Extensible}
use Rattle.rasn_schema.specs.Enumerations.{addeds_of, is_extensible, items_of}
use Rattle.rasn_schema.specs.Schemas
use Rattle.rasn_schema.specs.Schemas.{Schema}
use Rattle.per_core.specs.Versions.{Newer, more_items, unchanged}
use Rattle.rasn_dynamic.specs.declared.types.CharacterString.{CharacterString}
use Rattle.rasn_dynamic.specs.declared.types.Items.{Items}
use Rattle.rasn_dynamic.specs.declared.types.Simple.TheVariants.{BitString, Integer, NamedBits, OctetString}
use Rattle.rasn_dynamic.specs.Types.{behind, characters_of, counts_of, simple_schema, string_schema}
use Rattle.lawful_types.specs.OneLevel.{IsSameNumber, IsSameSize}

same_numbers : (b' b : Bounds) (m' m : Bool) → b' ≡ b → m' ≡ m → Newer (Schemas.number b' m' unbounded) (Schemas.number b m unbounded)
same_numbers b' b m' m e f = rw (e, f) (unchanged tt)

pub numbers : (c' c : Extensible (Bounded ℤ)) → IsSameNumber c' c → Newer (simple_schema (Integer c')) (simple_schema (Integer c))
numbers c' c h = same_numbers (bounds_of c'.constraint) (bounds_of c.constraint) c'.extensible c.extensible h.bounds h.mark

same_octets : (z' z : Size) (m' m : Bool) → z' ≡ z → m' ≡ m → Newer (Schemas.octet_string z' m') (Schemas.octet_string z m)
same_octets z' z m' m e f = rw (e, f) (unchanged tt)

same_bits : (z' z : Size) (m' m named : Bool) → z' ≡ z → m' ≡ m → Newer (Schemas.bit_string z' m' named) (Schemas.bit_string z m named)
same_bits z' z m' m named e f = rw (e, f) (unchanged tt)

same_strings : (a' a : List ℕ) (z' z : Size) (m' m : Bool) → a' ≡ a → z' ≡ z → m' ≡ m → Newer (Schemas.char_string a' z' m') (Schemas.char_string a z m)
same_strings a' a z' z m' m d e f = rw (d, e, f) (unchanged tt)

module _ (c' c : Extensible (Bounded ℕ)) (h : IsSameSize c' c) where
  pub octet_strings : Newer (simple_schema (OctetString c')) (simple_schema (OctetString c))
  octet_strings = same_octets (size_between c'.constraint) (size_between c.constraint) c'.extensible c.extensible h.size h.mark

  pub bit_strings : Newer (simple_schema (BitString c')) (simple_schema (BitString c))
  bit_strings = same_bits (size_between c'.constraint) (size_between c.constraint) c'.extensible c.extensible false h.size h.mark

  pub named_bits : Newer (simple_schema (NamedBits c')) (simple_schema (NamedBits c))
  named_bits = same_bits (size_between c'.constraint) (size_between c.constraint) c'.extensible c.extensible true h.size h.mark

some_items : {A : Type 0} (r' r : ℕ) (a' a : Option (Vec A)) → is_some a' ≡ is_some a → r' ≡ r → length (behind a) ≤ length (behind a') →
    Newer (Schemas.items r' (addeds_of (option_map (λ v. length v.items) a')) (is_extensible (option_map (λ v. length v.items) a')))
    (Schemas.items r (addeds_of (option_map (λ v. length v.items) a)) (is_extensible (option_map (λ v. length v.items) a)))
some_items r' r None None e f l = rw f (unchanged refl)
some_items r' r (Some a') (Some a) e f l = rw f (more_items l)
some_items r' r None (Some a) e f l = absurd cc
some_items r' r (Some a') None e f l = absurd cc

pub items : (i' i : Items) → is_some i'.addeds ≡ is_some i.addeds → length i'.roots.items ≡ length i.roots.items → length (behind i.addeds) ≤ length (behind i'.addeds) →
    Newer (items_of (counts_of i')) (items_of (counts_of i))
items i' i e f l = some_items (length i'.roots.items) (length i.roots.items) i'.addeds i.addeds e f l

one_alphabet : (own : List ℕ) (a' a : Option (Vec ℕ)) → option_map (λ v. v.items) a' ≡ option_map (λ v. v.items) a →
    permitted own (option_map (λ cs. record { constraint = cs.items; extensible = false }) a') ≡ permitted own (option_map (λ cs. record { constraint = cs.items; extensible = false }) a)
one_alphabet own None None e = refl
one_alphabet own (Some a') (Some a) e = let f : a'.items ≡ a.items = cc in rw f refl
one_alphabet own None (Some a) e = absurd cc
one_alphabet own (Some a') None e = absurd cc

pub strings : (s' s : CharacterString) → s'.of ≡ s.of → option_map (λ v. v.items) s'.alphabet ≡ option_map (λ v. v.items) s.alphabet → IsSameSize s'.size s.size →
    Newer (string_schema s') (string_schema s)
strings s' s e f h =
    same_strings _ _ (size_between s'.size.constraint) (size_between s.size.constraint) s'.size.extensible s.size.extensible
    (one_alphabet (characters_of s'.of) s'.alphabet s.alphabet f ∙ ap (λ o. permitted (characters_of o) (option_map (λ cs. record { constraint = cs.items; extensible = false }) s.alphabet)) e)
    h.size h.mark
