-- Padding, seen from the bits that are left.
use Rattle.std.proofs.Common.{◌≡◌, ◌≢◌, ℕ, ◌%◌, Bool, true, false, ◌++◌, length, take, take_all, refl, sym, ◌∙◌, ap, subst, arith}
use Rattle.rasn_types.specs.Bits.{Bits, number_of}
use Rattle.rasn_types.specs.Variants.{variant_of}
use Rattle.rasn_types.specs.declared.types.Codec.{Codec}
use Rattle.rasn_types.specs.declared.types.Codec.TheVariants.{Aper, Uper}
use Rattle.rasn_types.proofs.Packing.{number-zeros}
use Rattle.per_core.specs.Spellings.{AnyPadding, Settings, Spelling, Then, ZeroIf, bit_offset, Took, NoneIn}
use Rattle.per_core.specs.Writers.{pad}
use Rattle.per_core.proofs.SpellingsAgree.{fronts}
use Rattle.per_core.proofs.TakenInTurn.{then_took}
use Rattle.per_core.proofs.WriterSpellings.{zero_if}
use Rattle.per_core.proofs.Zeros.{zeros}
use Rattle.per_core.specs.BitFieldFaults.{AreNonzero}
use Rattle.per_read.specs.Options.{settings}
use Rattle.per_read.specs.Takes.{alone}
use Rattle.per_read.specs.declared.ReaderOptions.{ReaderOptions}

-- what is after padding isn't there where the padding isn't
pub no_padding : {X : Type 0} {a : Settings} {s : Bits} (f : X → Spelling) → NoneIn (alone AnyPadding a) s → NoneIn (λ x. Then (AnyPadding a) (f x)) s
no_padding f none x t b = let q = then_took b in none tt q.0 q.1

module _ (o : ReaderOptions) where
  -- in ALIGNED the bits beyond whole octets
  module _ (s f t : Bits) (l : ℕ) (e : o.codec ≡ Uper → ⊥) (joins : s ≡ f ++ t) (odd : length f ≡ l % 8) (all : l ≡ length s) where
    fits : length f ≡ pad (variant_of o.codec) (bit_offset s)
    fits = go o.codec e
      where
        go : (c : Codec) → (c ≡ Uper → ⊥) → length f ≡ pad (variant_of c) (bit_offset s)
        go Aper e = omega (arith, odd, all)
        go Uper e = absurd (e refl)

    -- where they are as they have to be
    padded : ZeroIf o.zero_padding f → Took (AnyPadding (settings o)) s t
    padded z = record { front = f; joins = joins; spelled = record { fits = fits; zeros = z } }

    -- of any value
    pub padded_any : o.zero_padding ≡ false → Took (AnyPadding (settings o)) s t
    padded_any h = padded (any o.zero_padding h)
      where
        any : (strict : Bool) → strict ≡ false → ZeroIf strict f
        any false h = tt
        any true h = absurd cc

    -- all of them together mean n
    module _ (n : ℕ) (means : n ≡ number_of (take (l % 8) f)) where
      is_number : n ≡ number_of f
      is_number = means ∙ ap (λ (k : ℕ). number_of (take k f)) (sym odd) ∙ ap number_of (take_all (length f) f (omega arith))

      pub padded_zero : n ≡ 0 → Took (AnyPadding (settings o)) s t
      padded_zero h = padded (zero_if o.zero_padding f (zeros f (sym is_number ∙ h)))

      -- where they aren't zero
      pub nonzero : o.zero_padding ≡ true → n ≢ 0 → AreNonzero (settings o) s
      nonzero strict some = record {
        padding = f;
        rest = t;
        joins = joins;
        fits = fits;
        nonzero = λ z. some (is_number ∙ ap number_of (subst (λ z. ZeroIf z f) strict z) ∙ number-zeros (length f));
      }

      -- nothing is padding then
      pub unpadded : o.zero_padding ≡ true → n ≢ 0 → NoneIn (alone AnyPadding (settings o)) s
      unpadded strict some u r b =
          let same : f ≡ b.front = fronts f b.front t r (fits ∙ sym b.spelled.fits) (sym joins ∙ b.joins) in
          let zero = subst (λ z. ZeroIf z b.front) strict b.spelled.zeros in
          some (is_number ∙ ap number_of (same ∙ zero) ∙ number-zeros (length b.front))
