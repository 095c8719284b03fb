-- Two types of one schema: what is written and read by the one is written and read by the other.
use Rattle.std.proofs.Common.{◌≡◌, sym, ap, ◌∙◌, subst, ℕ, ◌+◌, List, Some, Result, Ok, Err, Bool, arith}
use Rattle.std.proofs.lemmas.Option.{none-some}
use Rattle.std.specs.Borrow.{Bor}
use Rattle.std.specs.Prelude.{◌↔◌}
use Rattle.rasn_types.specs.Variants.{variant_of, Variant}
use Rattle.rasn_types.specs.Values.{Value}
use Rattle.rasn_types.specs.declared.types.Codec.{Codec}
use Rattle.rasn_schema.specs.Schemas.{Schema}
use Rattle.rasn_schema.specs.Levels.{Levelled}
use Rattle.rasn_schema.specs.Normal.{normal}
use Rattle.per_core.specs.Basic.{fills, front}
use Rattle.per_core.specs.Canon.{bytes}
use Rattle.per_core.specs.declared.decode_error.DecodeError.{DecodeError}
use Rattle.rasn_per.specs.Calls.{DecodedBy, DecodedFront, AreBytes, HasNoBytes, basically, reading}
use Rattle.per_versions.specs.Answers.{Answers, AnswersFront}
use Rattle.per_versions.specs.Readings.{depth_of, normal_form}
use Rattle.per_versions.proofs.Depths.{bytes_at, no_bytes_at}
use Rattle.per_versions.proofs.Laws
use Rattle.per_dynamic.specs.Alike.{AreAlike}

-- the same octets by the other type's schema
pub bytes_alike : (a : Variant) (f g : ℕ → Schema) → AreAlike f g → (k : ℕ) (v : Value) (os : List ℕ) → AreBytes a g k v os → AreBytes a f k v os
bytes_alike a f g h k v os b = record { at = λ n l. subst (λ s. bytes a s (normal s v) ≡ Some os) (sym (h n)) (b.at n l) }

normal_alike : (f g : ℕ → Schema) → AreAlike f g → (v : Value) → normal_form f v ≡ normal_form g v
normal_alike f g h v = ap (λ s. normal s v) (h (depth_of v))

pub equal_alike : (a : Variant) (f g : ℕ → Schema) → AreAlike f g → Levelled f → (k l : ℕ) (v w : Value) (os ps : List ℕ) → AreBytes a f k v os → AreBytes a g l w ps → (os ≡ ps) ↔ (normal_form f v ≡ normal_form g w)
equal_alike a f g h u k l v w os ps b c =
    let q = Laws.told_apart a f u k l v w os ps b (bytes_alike a f g h l w ps c) in
    (λ e. q.0 e ∙ normal_alike f g h w, λ e. q.1 (e ∙ sym (normal_alike f g h w)))

-- of two values of one normal form, octets and no octets
pub apart : (a : Variant) (f g : ℕ → Schema) → AreAlike f g → Levelled f → Levelled g → (k l : ℕ) (v w : Value) (os : List ℕ) → normal_form f v ≡ normal_form g w → AreBytes a f k v os → HasNoBytes a g l w → ⊥
apart a f g h u x k l v w os e b c =
    let n = k + l + depth_of v + depth_of w in
    let p = bytes_at f u a k v os b n (omega arith) (omega arith) in
    let q = no_bytes_at g x a l w c n (omega arith) (omega arith) in
    none-some os (sym q ∙ ap (λ s. bytes a s (normal_form g w)) (sym (h n)) ∙ ap (bytes a (f n)) (sym e) ∙ p)

-- one type's answer and the other's
pub answers_alike : {X Y : Type 0} (strict : Bool) (codec : Codec) (f g : ℕ → Schema) → f 128 ≡ g 128 → (value : X → Value) (other : Y → Value) (os : List ℕ) (x : X) (answer : Result Y DecodeError) →
    DecodedBy strict codec f value os (Ok x) → DecodedBy strict codec g other os answer → Answers other (λ w. w ≡ value x) answer
answers_alike strict codec f g h value other os x answer d e =
    let a = reading strict (variant_of codec) in
    Laws.answered strict codec g other os answer (λ w. w ≡ value x) e
    (λ w. (λ r. d.ok.only w (subst (λ s. fills a s w os) (sym h) r), λ i. subst (λ z. fills a (g 128) z os) (sym i) (subst (λ s. fills a s (value x) os) h d.ok.are_read)))

pub fronts_alike : {X Y : Type 0} (codec : Codec) (f g : ℕ → Schema) → f 128 ≡ g 128 → (value : X → Value) (other : Y → Value) (os : List ℕ) (x : X × Bor (List ℕ)) (answer : Result (Y × Bor (List ℕ)) DecodeError) →
    DecodedFront codec f value os (Ok x) → DecodedFront codec g other os answer → AnswersFront other (λ w. w ≡ value x.0) x.1.now answer
fronts_alike codec f g h value other os x (Ok y) d e =
    let a = basically (variant_of codec) in
    let q = d.ok.only (other y.0) y.1.now (subst (λ s. front a s (other y.0) os y.1.now) (sym h) e.ok.are_read) in
    record { ok = (q.0, q.1); err = tt }
fronts_alike codec f g h value other os x (Err k) d e =
    let a = basically (variant_of codec) in
    record { ok = tt; err = λ m w i. e.err m w x.1.now (subst (λ z. front a (g 128) z os x.1.now) (sym i) (subst (λ s. front a s (value x.0) os x.1.now) h d.ok.are_read)) }
