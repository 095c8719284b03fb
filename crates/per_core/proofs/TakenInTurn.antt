-- Spellings one after the other, seen from the bits that are left.
use Rattle.std.proofs.Common.{◌≡◌, ℕ, Bool, [], ◌∷◌, ◌++◌, refl, sym, ◌∙◌, ap, subst, arith, append_assoc, length-append, length, ◌%◌}
use Rattle.rasn_types.specs.Bits.{Bits}
use Rattle.per_core.specs.Spellings.{Spelling, Then, exactly, bit_offset, Took}
use Rattle.per_core.specs.Writers.{after}
use Rattle.per_core.proofs.SpellingsAgree.{Agree, cancel}

pub place_after : (f t : Bits) → after (bit_offset (f ++ t)) f ≡ bit_offset t
place_after f t = omega (arith, length-append f t)

-- and of what is written: its own place is its length, below 8
pub length_after : (f b : Bits) → after (length f % 8) b ≡ length (f ++ b) % 8
length_after f b = omega (arith, length-append f b)

pub took_then : {f g : Spelling} {s m t : Bits} → Took f s m → Took g m t → Took (Then f g) s t
took_then {f} {g} {s} {m} {t} a b = record {
  front = a.front ++ b.front;
  joins = a.joins ∙ ap (λ z. a.front ++ z) b.joins ∙ sym (append_assoc a.front b.front t);
  spelled = record {
    front = a.front;
    rest = b.front;
    is_front = a.spelled;
    is_rest = subst (λ z. g z b.front) (sym (ap (λ z. after (bit_offset z) a.front) a.joins ∙ place_after a.front m)) b.spelled;
    joins = refl;
  };
}

pub then_took : {f g : Spelling} {s t : Bits} → Took (Then f g) s t → (m : Bits) × Took f s m × Took g m t
then_took {f} {g} {s} {t} a =
    let h = a.spelled in
    let w : s ≡ h.front ++ (h.rest ++ t) = a.joins ∙ ap (λ z. z ++ t) h.joins ∙ append_assoc h.front h.rest t in (
      h.rest ++ t,
      record { front = h.front; joins = w; spelled = h.is_front },
      record { front = h.rest; joins = refl; spelled = subst (λ z. g z h.rest) (ap (λ z. after (bit_offset z) h.front) w ∙ place_after h.front (h.rest ++ t)) h.is_rest },
    )

pub took_agree : {P : Type 0} {f g : Spelling} {s t u : Bits} → Agree P f g → Took f s t → Took g s u → P × (t ≡ u)
took_agree {P} {f} {g} {s} {t} {u} w a b =
    let e : a.front ++ t ≡ b.front ++ u = sym a.joins ∙ b.joins in
    let r = w.agree (bit_offset s) a.front b.front t u a.spelled b.spelled e in
    (r.0, cancel b.front t u (ap (λ z. z ++ t) (sym r.1) ∙ e))

pub took_map : {f g : Spelling} {s t : Bits} → ((p : ℕ) (b : Bits) → f p b → g p b) → Took f s t → Took g s t
took_map h a = record { front = a.front; joins = a.joins; spelled = h _ _ a.spelled }

pub took_nothing : (s : Bits) → Took (exactly []) s s
took_nothing s = record { front = []; joins = refl; spelled = refl }

pub nothing_took : {s t : Bits} → Took (exactly []) s t → s ≡ t
nothing_took {s} {t} a = a.joins ∙ ap (λ z. z ++ t) a.spelled

pub took_bit : (b : Bool) (t : Bits) → Took (exactly (b ∷ [])) (b ∷ t) t
took_bit b t = record { front = b ∷ []; joins = refl; spelled = refl }

pub took_front : {f : Spelling} {s t : Bits} (h : Took f s t) → s ≡ h.front ++ t
took_front h = h.joins
