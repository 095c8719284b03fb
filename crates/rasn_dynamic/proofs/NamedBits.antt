-- Defaults of types whose values are named bits (X.680 22.7, X.691 16.2).
use Rattle.std.proofs.Common.{◌≡◌, refl, sym, ap, ◌∙◌, subst, ℕ, zero, suc, ◌+◌, ◌-◌, ◌^◌, ◌<◌, Bool, true, false, cond, not, ltb, lt-ltb, List, [], ◌∷◌, ◌++◌, length, drop, replicate, get_or, append-nil, arith, Option, Some, None}
use mathlib.Core.Bool.{beq}
use Rattle.std.specs.Cmp.Lexicographic.{pointwise}
use Rattle.std.specs.Option.{unwrap_or}
use Rattle.std.specs.Prelude.{slice_get}
use Rattle.rasn_types.specs.Bits.{Bits, filled_up, trimmed}
use Rattle.rasn_types.specs.Values
use Rattle.rasn_types.specs.Values.{Value, bits, same}
use Rattle.rasn_types.proofs.Trimming.{trimmed-split}
use Rattle.rasn_constraints.specs.declared.constraints.Bounded.{Bounded}
use Rattle.rasn_constraints.specs.declared.constraints.Extensible.{Extensible}
use Rattle.rasn_schema.specs.Forms.{named_bit_schema, size_of}
use Rattle.rasn_schema.specs.Normal.{normal, normal_bits, over_bits}
use Rattle.rasn_dynamic.specs.declared.types.DefaultValue.{DefaultValue}
use Rattle.rasn_dynamic.specs.declared.types.DefaultValue.TheVariants as Defaults
use Rattle.rasn_dynamic.specs.declared.types.Kind.{Kind}
use Rattle.rasn_dynamic.specs.declared.types.Kind.TheVariants.{Simple as SimpleKind, Date, List as ListKind, SetOf, Record as RecordKind, Choice as ChoiceKind, Containing}
use Rattle.rasn_dynamic.specs.declared.types.Simple.{Simple}
use Rattle.rasn_dynamic.specs.declared.types.Simple.TheVariants as Simples
use Rattle.rasn_dynamic.specs.Types.{contained_at, default_value, named_size, of_size, plain_at, schema_at, simple_schema, within}
use Rattle.rasn_dynamic.specs.Values.{NotBits}
use Rattle.rasn_traits.specs.Moments.{date_at}
use Rattle.rasn_dynamic.proofs.Places.{contained_none, contained_there, containing_there, date_plain, none_there, plain_there, simple_plain}
use Rattle.rasn_dynamic.proofs.SameDefaults.{differs, is_named, same_bits}

-- a bit of zero bits, and of bits with zero bits after them
zero_bit : (n i : ℕ) → get_or (replicate n false) i false ≡ false
zero_bit zero i = refl
zero_bit (suc n) zero = refl
zero_bit (suc n) (suc i) = zero_bit n i

bit_before_zeros : (bs : List Bool) (n i : ℕ) → get_or (bs ++ replicate n false) i false ≡ get_or bs i false
bit_before_zeros [] n i = zero_bit n i
bit_before_zeros (b ∷ bs) n zero = refl
bit_before_zeros (b ∷ bs) n (suc i) = bit_before_zeros bs n i

-- no bit is another without the zero bits at the end, nor with others there
pub filled_bit : (least i : ℕ) (bs : List Bool) → get_or bs i false ≡ get_or (filled_up least (trimmed bs)) i false
filled_bit least i bs =
    let s = trimmed-split bs in
    ap (λ cs. get_or cs i false) s.1 ∙ bit_before_zeros (trimmed bs) s.0 i ∙ sym (bit_before_zeros (trimmed bs) (least - length (trimmed bs)) i)

-- bits from a place on are the same exactly where those at the place and those after it are
head_bit : (i : ℕ) (xs ys : List Bool) → i < length xs → i < length ys → pointwise beq (drop i xs) (drop i ys) ≡ cond (beq (get_or xs i false) (get_or ys i false)) (pointwise beq (drop (suc i) xs) (drop (suc i) ys)) false
head_bit i [] ys p q = absurd (omega (arith, p))
head_bit i (x ∷ xs) [] p q = absurd (omega (arith, q))
head_bit zero (true ∷ xs) (true ∷ ys) p q = refl
head_bit zero (true ∷ xs) (false ∷ ys) p q = refl
head_bit zero (false ∷ xs) (true ∷ ys) p q = refl
head_bit zero (false ∷ xs) (false ∷ ys) p q = refl
head_bit (suc i) (x ∷ xs) (y ∷ ys) p q = head_bit i xs ys (omega (arith, p)) (omega (arith, q))

module _ (i : ℕ) (xs ys : List Bool) (a b r : Bool) (e : length xs ≡ length ys) (l : i < length ys) (f : a ≡ get_or xs i false) (g : b ≡ get_or ys i false) (h : pointwise beq (drop i xs) (drop i ys) ≡ r) where
  bits_at : cond (beq a b) (pointwise beq (drop (suc i) xs) (drop (suc i) ys)) false ≡ r
  bits_at = rw (f, g) (sym (head_bit i xs ys (omega (arith, e, l)) l) ∙ h)

  pub next_bit : not (beq a b) ≡ false → pointwise beq (drop (i + 1) xs) (drop (i + 1) ys) ≡ r
  next_bit n = go (beq a b) n bits_at
    where
      go : (t : Bool) → not t ≡ false → cond t (pointwise beq (drop (suc i) xs) (drop (suc i) ys)) false ≡ r → pointwise beq (drop (i + 1) xs) (drop (i + 1) ys) ≡ r
      go true n h = let e : i + 1 ≡ suc i = omega arith in rw e h
      go false n h = absurd (cc)

  pub other_bit : not (beq a b) ≡ true → false ≡ r
  other_bit n = go (beq a b) n bits_at
    where
      go : (t : Bool) → not t ≡ true → cond t (pointwise beq (drop (suc i) xs) (drop (suc i) ys)) false ≡ r → false ≡ r
      go true n h = absurd (cc)
      go false n h = h

-- bits up to the least count are those in normal form
normal_form : (l : Option ℕ) (n : ℕ) (bs : List Bool) → n ≡ unwrap_or l 0 → n < 2 ^ 64 → filled_up n (trimmed bs) ≡ normal_bits l bs
normal_form None n bs e h =
    let z : n - length (trimmed bs) ≡ 0 = omega arith in
    ap (λ (m : ℕ). trimmed bs ++ replicate m false) z ∙ append-nil (trimmed bs)
normal_form (Some l) n bs e h =
    let s : ltb l (2 ^ 64) ≡ true = lt-ltb l (2 ^ 64) (subst (λ (m : ℕ). m < 2 ^ 64) e h) in
    ap (λ (m : ℕ). filled_up m (trimmed bs)) e ∙ sym (ap (λ b. cond b (filled_up l (trimmed bs)) (trimmed bs)) s)

over_form : (l : Option ℕ) (n : ℕ) (v : Value) → n ≡ unwrap_or l 0 → n < 2 ^ 64 → over_bits (λ bs. filled_up n (trimmed bs)) v ≡ over_bits (normal_bits l) v
over_form l n (Values.bits bs) e h = ap bits (normal_form l n bs e h)
over_form l n v e h = refl

-- what isn't bits stays as it is
pub bits_alone : (f : Bits → Bits) (v : Value) → NotBits v → over_bits f v ≡ v
bits_alone f (Values.bits bs) h = absurd (let e : true ≡ false = h (record { least = None; most = None }) false false in cc)
bits_alone f v h = refl

-- bits are no default of another kind
pub no_told : (bs : List Bool) (d : DefaultValue) → ((ds : List Bool) → d ≡ Defaults.Bits ds → ⊥) → false ≡ same (bits bs) (default_value d)
no_told bs (Defaults.Boolean b) h = sym (differs (bits bs) (default_value (Defaults.Boolean b)) (λ e. absurd cc))
no_told bs Defaults.Null h = sym (differs (bits bs) (default_value Defaults.Null) (λ e. absurd cc))
no_told bs (Defaults.Integer z) h = sym (differs (bits bs) (default_value (Defaults.Integer z)) (λ e. absurd cc))
no_told bs (Defaults.Item p) h = sym (differs (bits bs) (default_value (Defaults.Item p)) (λ e. absurd cc))
no_told bs (Defaults.Octets os) h = sym (differs (bits bs) (default_value (Defaults.Octets os)) (λ e. absurd cc))
no_told bs (Defaults.Bits ds) h = absurd (h ds refl)
no_told bs (Defaults.Characters cs) h = sym (differs (bits bs) (default_value (Defaults.Characters cs)) (λ e. absurd cc))
no_told bs Defaults.NoElements h = sym (differs (bits bs) (default_value Defaults.NoElements) (λ e. absurd cc))

-- what has a size of named bits is named bits
named_only : (o : Option Kind) (c : Extensible (Bounded ℕ)) → named_size o ≡ Some c → o ≡ Some (SimpleKind (Simples.NamedBits c))
named_only (Some (SimpleKind (Simples.NamedBits d))) c e = let h : d ≡ c = cc in ap (λ z. Some (SimpleKind (Simples.NamedBits z))) h
named_only o c e = absurd cc

-- and what has none isn't
unnamed_simple : (k : Simple) → named_size (Some (SimpleKind k)) ≡ None → is_named (simple_schema k) ≡ false
unnamed_simple (Simples.NamedBits c) e = absurd cc
unnamed_simple k e = refl

unnamed_date : (n : ℕ) → is_named (date_at n) ≡ false
unnamed_date zero = refl
unnamed_date (suc zero) = refl
unnamed_date (suc (suc n)) = refl

unnamed_plain : (ts : List Kind) (k : Kind) (n : ℕ) → named_size (Some k) ≡ None → is_named (plain_at ts k n) ≡ false
unnamed_plain ts (SimpleKind k) n e = ap is_named (simple_plain ts k n) ∙ unnamed_simple k e
unnamed_plain ts Date n e = ap is_named (date_plain ts n) ∙ unnamed_date n
unnamed_plain ts k zero e = refl
unnamed_plain ts k (suc n) e = refl

pub unnamed_at : (ts : List Kind) (i : ℕ) → named_size (within ts (slice_get ts i)) ≡ None → (n : ℕ) → is_named (schema_at ts i n) ≡ false
unnamed_at ts i e n = go (slice_get ts i) refl e
  where
    inside : (j : ℕ) (o : Option Kind) → slice_get ts j ≡ o → named_size o ≡ None → is_named (contained_at ts j n) ≡ false
    inside j None q f = ap is_named (contained_none ts j q n)
    inside j (Some k) q f = ap is_named (contained_there ts j k q n) ∙ unnamed_plain ts k n f

    outside : (k : Kind) → slice_get ts i ≡ Some k → ((j : ℕ) → k ≡ Containing j → ⊥) → named_size (Some k) ≡ None → is_named (schema_at ts i n) ≡ false
    outside k q h f = ap is_named (plain_there ts i k q h n) ∙ unnamed_plain ts k n f

    go : (o : Option Kind) → slice_get ts i ≡ o → named_size (within ts o) ≡ None → is_named (schema_at ts i n) ≡ false
    go None q f = ap is_named (none_there ts i q n)
    go (Some (Containing j)) q f = ap is_named (containing_there ts i j q n) ∙ inside j (slice_get ts j) refl f
    go (Some k) q f = outside k q (λ j g. absurd cc) f

-- the normal form of what is at a place of named bits
named_normal : (ts : List Kind) (i : ℕ) (c : Extensible (Bounded ℕ)) (v : Value) → named_size (within ts (slice_get ts i)) ≡ Some c → (n : ℕ) → normal (schema_at ts i n) v ≡ over_bits (normal_bits (size_of (of_size c)).least) v
unfolding normal
named_normal ts i c v e n = go (slice_get ts i) refl e
  where
    own : Simple
    own = Simples.NamedBits c

    go : (o : Option Kind) → slice_get ts i ≡ o → named_size (within ts o) ≡ Some c → normal (schema_at ts i n) v ≡ over_bits (normal_bits (size_of (of_size c)).least) v
    go None q f = absurd cc
    go (Some (Containing j)) q f =
        let k = contained_there ts j (SimpleKind own) (named_only (slice_get ts j) c f) n ∙ simple_plain ts own n in
        ap (λ s. normal s v) (containing_there ts i j q n) ∙ ap (λ s. normal s v) k
    go (Some k) q f =
        let h : Some k ≡ Some (SimpleKind own) = named_only (Some k) c f in
        ap (λ s. normal s v) (plain_there ts i (SimpleKind own) (q ∙ h) (λ j g. absurd cc) n ∙ simple_plain ts own n)

-- and whether it is a default
pub named_same : (ts : List Kind) (i m : ℕ) (c : Extensible (Bounded ℕ)) (v w : Value) (b : Bool) → named_size (within ts (slice_get ts i)) ≡ Some c → m ≡ unwrap_or (size_of (of_size c)).least 0 → m < 2 ^ 64
    → b ≡ same (over_bits (λ bs. filled_up m (trimmed bs)) v) w → (n : ℕ) → b ≡ same (normal (schema_at ts i n) v) w
named_same ts i m c v w b e f l h n = h ∙ ap (λ u. same u w) (over_form (size_of (of_size c)).least m v f l ∙ sym (named_normal ts i c v e n))

-- whether named bits are in normal form
pub bits_normal : (c : Extensible (Bounded ℕ)) (m : ℕ) (bs : List Bool) (b : Bool) → m ≡ unwrap_or (size_of (of_size c)).least 0 → m < 2 ^ 64 → b ≡ pointwise beq (filled_up m (trimmed bs)) bs
    → b ≡ same (normal (named_bit_schema (of_size c)) (bits bs)) (bits bs)
unfolding normal
bits_normal c m bs b e l h = h ∙ same_bits (filled_up m (trimmed bs)) bs ∙ ap (λ cs. same (bits cs) (bits bs)) (normal_form (size_of (of_size c)).least m bs e l)
