-- The octets of a UTF8String are the octets of a Rust text.
use Rattle.std.proofs.Common.{◌≡◌, ◌≢◌, refl, sym, ap, ap₂, ◌∙◌, subst, ℕ, zero, suc, ◌+◌, ◌-◌, ◌*◌, ◌/◌, ◌%◌, ◌<◌, ◌≤◌, ◌⊎◌, inl, inr, Bool, true, false, cond, ◌&&◌, leb, eqb, List, [], ◌∷◌, ◌++◌, length, Option, None, arith, true≢false, lt-ltb, le-leb, leb-true, IsUtf8}
use Rattle.std.proofs.lemmas.Bool.{cases_lt, le-ltb, ne_eqb}
use Rattle.std.proofs.lemmas.Str.{IsUtf8-string_bytes, IsUtf8-encode, IsUtf8-append, IsUtf8-nil}
use Rattle.std.specs.declared.string.String.{String}
use Rattle.std.specs.String.{string_bytes}
use lib.Utf8.{scalar, scalars, encode, encodes, scalar_cases, low_scalar}
use Rattle.rasn_types.specs.Contents.{TextKind, Awaited, awaiting, first_octet, next_octet, utf8_after, is_text}

-- ---- the first octet of a character

first_ascii : (o : ℕ) → o < 128 → first_octet o ≡ awaiting 0 0 0
first_ascii o h = rw (lt-ltb o 128 h) refl

first_two : (o : ℕ) → 194 ≤ o → o < 224 → first_octet o ≡ awaiting 1 128 191
first_two o h l = rw (le-ltb o 128 (omega arith), le-ltb o 194 h, lt-ltb o 224 l) refl

first_three : (o : ℕ) → 224 < o → o < 240 → o ≢ 237 → first_octet o ≡ awaiting 2 128 191
first_three o h l n = rw (le-ltb o 128 (omega arith), le-ltb o 194 (omega arith), le-ltb o 224 (omega arith), ne_eqb o 224 (λ e. omega arith), ne_eqb o 237 n, lt-ltb o 240 l) refl

first_four : (o : ℕ) → 240 < o → o < 244 → first_octet o ≡ awaiting 3 128 191
first_four o h l = rw (le-ltb o 128 (omega arith), le-ltb o 194 (omega arith), le-ltb o 224 (omega arith), ne_eqb o 224 (λ e. omega arith), ne_eqb o 237 (λ e. omega arith), le-ltb o 240 (omega arith), ne_eqb o 240 (λ e. omega arith), lt-ltb o 244 l) refl

first_none_low : (o : ℕ) → 128 ≤ o → o < 194 → first_octet o ≡ None
first_none_low o h l = rw (le-ltb o 128 h, lt-ltb o 194 l) refl

first_none_high : (o : ℕ) → 244 < o → first_octet o ≡ None
first_none_high o h = rw (le-ltb o 128 (omega arith), le-ltb o 194 (omega arith), le-ltb o 224 (omega arith), ne_eqb o 224 (λ e. omega arith), ne_eqb o 237 (λ e. omega arith), le-ltb o 240 (omega arith), ne_eqb o 240 (λ e. omega arith), le-ltb o 244 (omega arith), ne_eqb o 244 (λ e. omega arith)) refl

-- ---- a further octet of a character

further : (n l h o : ℕ) (os : List ℕ) → eqb n 0 ≡ false → l ≤ o → o ≤ h → utf8_after (awaiting n l h) (o ∷ os) ≡ utf8_after (awaiting (n - 1) 128 191) os
further n l h o os e f g = ap (λ w. utf8_after w os) next
  where
    next : next_octet (record { more = n; low = l; high = h }) o ≡ awaiting (n - 1) 128 191
    next = rw (e, le-leb l o f, le-leb o h g) refl

-- where a character has ended, the bounds of the last octet say nothing
ended : (l h : ℕ) (os : List ℕ) → utf8_after (awaiting 0 l h) os ≡ utf8_after (awaiting 0 0 0) os
ended l h [] = refl
ended l h (o ∷ os) = refl

-- ---- a character's octets are read whole

one_read : (o : ℕ) (os : List ℕ) → o < 128 → utf8_after (awaiting 0 0 0) (o ∷ os) ≡ utf8_after (awaiting 0 0 0) os
one_read o os h = ap (λ w. utf8_after w os) (first_ascii o h)

two_read : (o p : ℕ) (os : List ℕ) → 194 ≤ o → o < 224 → 128 ≤ p → p ≤ 191 → utf8_after (awaiting 0 0 0) (o ∷ p ∷ os) ≡ utf8_after (awaiting 0 0 0) os
two_read o p os h l f g = ap (λ w. utf8_after w (p ∷ os)) (first_two o h l) ∙ further 1 128 191 p os refl f g ∙ ended 128 191 os

three_read : (l h o p q : ℕ) (os : List ℕ) → first_octet o ≡ awaiting 2 l h → l ≤ p → p ≤ h → 128 ≤ q → q ≤ 191 → utf8_after (awaiting 0 0 0) (o ∷ p ∷ q ∷ os) ≡ utf8_after (awaiting 0 0 0) os
three_read l h o p q os e f g i j = ap (λ w. utf8_after w (p ∷ q ∷ os)) e ∙ further 2 l h p (q ∷ os) refl f g ∙ further 1 128 191 q os refl i j ∙ ended 128 191 os

four_read : (l h o p q r : ℕ) (os : List ℕ) → first_octet o ≡ awaiting 3 l h → l ≤ p → p ≤ h → 128 ≤ q → q ≤ 191 → 128 ≤ r → r ≤ 191 →
    utf8_after (awaiting 0 0 0) (o ∷ p ∷ q ∷ r ∷ os) ≡ utf8_after (awaiting 0 0 0) os
four_read l h o p q r os e f g i j m n = ap (λ w. utf8_after w (p ∷ q ∷ r ∷ os)) e ∙ further 3 l h p (q ∷ r ∷ os) refl f g ∙ further 2 128 191 q (r ∷ os) refl i j
    ∙ further 1 128 191 r os refl m n ∙ ended 128 191 os

-- ---- the octets of a character

encode_one : (c : ℕ) → c < 128 → encode c ≡ c ∷ []
unfolding encode
encode_one c h = rw (lt-ltb c 128 h) refl

encode_two : (c : ℕ) → 128 ≤ c → c < 2048 → encode c ≡ (192 + c / 64) ∷ (128 + c % 64) ∷ []
unfolding encode
encode_two c h l = rw (le-ltb c 128 h, lt-ltb c 2048 l) refl

encode_three : (c : ℕ) → 2048 ≤ c → c < 65536 → encode c ≡ (224 + c / 4096) ∷ (128 + c / 64 % 64) ∷ (128 + c % 64) ∷ []
unfolding encode
encode_three c h l = rw (le-ltb c 128 (omega arith), le-ltb c 2048 h, lt-ltb c 65536 l) refl

encode_four : (c : ℕ) → 65536 ≤ c → encode c ≡ (240 + c / 262144) ∷ (128 + c / 4096 % 64) ∷ (128 + c / 64 % 64) ∷ (128 + c % 64) ∷ []
unfolding encode
encode_four c h = rw (le-ltb c 128 (omega arith), le-ltb c 2048 (omega arith), le-ltb c 65536 h) refl

-- ---- a text's octets are read whole

character_read : (c : ℕ) (os : List ℕ) → scalar c ≡ true → utf8_after (awaiting 0 0 0) (encode c ++ os) ≡ utf8_after (awaiting 0 0 0) os
character_read c os s = elim (cases_lt c 128) [
  | inl h ↦ ap (λ qs. utf8_after (awaiting 0 0 0) (qs ++ os)) (encode_one c h) ∙ one_read c os h
  | inr h ↦ (elim (cases_lt c 2048) [
    | inl l ↦ ap (λ qs. utf8_after (awaiting 0 0 0) (qs ++ os)) (encode_two c h l) ∙ two_read (192 + c / 64) (128 + c % 64) os (omega arith) (omega arith) (omega arith) (omega arith)
    | inr l ↦ (elim (cases_lt c 65536) [
      | inl k ↦ ap (λ qs. utf8_after (awaiting 0 0 0) (qs ++ os)) (encode_three c l k) ∙ three l k
      | inr k ↦ ap (λ qs. utf8_after (awaiting 0 0 0) (qs ++ os)) (encode_four c k) ∙ four k
    ])
  ])
]
  where
    scalar_range : (c < 55296) ⊎ ((57344 ≤ c) × (c < 1114112))
    scalar_range = scalar_cases c s

    three : 2048 ≤ c → c < 65536 → utf8_after (awaiting 0 0 0) ((224 + c / 4096) ∷ (128 + c / 64 % 64) ∷ (128 + c % 64) ∷ os) ≡ utf8_after (awaiting 0 0 0) os
    three l k = elim (cases_lt c 4096) [
      | inl m ↦ three_read 160 191 (224 + c / 4096) (128 + c / 64 % 64) (128 + c % 64) os (ap first_octet (let e : 224 + c / 4096 ≡ 224 = omega arith in e)) (omega arith) (omega arith) (omega arith) (omega arith)
      | inr m ↦ (elim (cases_lt c 53248) [
        | inl j ↦ three_read 128 191 (224 + c / 4096) (128 + c / 64 % 64) (128 + c % 64) os (first_three (224 + c / 4096) (omega arith) (omega arith) (λ e. omega arith)) (omega arith) (omega arith) (omega arith) (omega arith)
        | inr j ↦ (elim scalar_range [
          | inl r ↦ three_read 128 159 (224 + c / 4096) (128 + c / 64 % 64) (128 + c % 64) os (ap first_octet (let e : 224 + c / 4096 ≡ 237 = omega arith in e)) (omega arith) (omega arith) (omega arith) (omega arith)
          | inr r ↦ let a : 57344 ≤ c = r.0 in
              three_read 128 191 (224 + c / 4096) (128 + c / 64 % 64) (128 + c % 64) os (first_three (224 + c / 4096) (omega arith) (omega arith) (λ e. omega arith)) (omega arith) (omega arith) (omega arith) (omega arith)
        ])
      ])
    ]

    four : 65536 ≤ c → utf8_after (awaiting 0 0 0) ((240 + c / 262144) ∷ (128 + c / 4096 % 64) ∷ (128 + c / 64 % 64) ∷ (128 + c % 64) ∷ os) ≡ utf8_after (awaiting 0 0 0) os
    four k = elim (cases_lt c 262144) [
      | inl m ↦ four_read 144 191 (240 + c / 262144) (128 + c / 4096 % 64) (128 + c / 64 % 64) (128 + c % 64) os (ap first_octet (let e : 240 + c / 262144 ≡ 240 = omega arith in e)) (omega arith) (omega arith) (omega arith) (omega arith) (omega arith) (omega arith)
      | inr m ↦ (elim (cases_lt c 1048576) [
        | inl j ↦ four_read 128 191 (240 + c / 262144) (128 + c / 4096 % 64) (128 + c / 64 % 64) (128 + c % 64) os (first_four (240 + c / 262144) (omega arith) (omega arith)) (omega arith) (omega arith) (omega arith) (omega arith) (omega arith) (omega arith)
        | inr j ↦ (let b : c < 1114112 = below in
            four_read 128 143 (240 + c / 262144) (128 + c / 4096 % 64) (128 + c / 64 % 64) (128 + c % 64) os (ap first_octet (let e : 240 + c / 262144 ≡ 244 = omega arith in e)) (omega arith) (omega arith) (omega arith) (omega arith) (omega arith) (omega arith))
      ])
    ]
      where
        below : c < 1114112
        below = elim scalar_range [ inl r ↦ omega arith | inr r ↦ r.1 ]

both : (a b : Bool) → (a && b) ≡ true → (a ≡ true) × (b ≡ true)
both true b e = (refl, e)
both false b e = absurd (true≢false (sym e))

characters_read : (cs : List ℕ) → scalars cs ≡ true → utf8_after (awaiting 0 0 0) (encodes cs) ≡ true
characters_read [] s = refl
characters_read (c ∷ cs) s = character_read c (encodes cs) (both (scalar c) (scalars cs) s).0 ∙ characters_read cs (both (scalar c) (scalars cs) s).1

-- X.680 41: the octets of a Rust text are those of a UTF8String
pub is_text-IsUtf8 : (os : List ℕ) → IsUtf8 os → is_text TextKind.utf8 os ≡ true
unfolding is_text
is_text-IsUtf8 os h = subst (λ qs. utf8_after (awaiting 0 0 0) qs ≡ true) h.1.1 (characters_read h.0 h.1.0)

-- ---- what is read whole is a text

-- what a further octet is, and what is after it
record Next (l h n : ℕ) (os : List ℕ) : Type 0 where
  octet : ℕ
  rest : List ℕ
  is : os ≡ octet ∷ rest
  low : l ≤ octet
  high : octet ≤ h
  whole : utf8_after (awaiting (n - 1) 128 191) rest ≡ true

next : (n l h : ℕ) (os : List ℕ) → eqb n 0 ≡ false → utf8_after (awaiting n l h) os ≡ true → Next l h n os
next n l h [] e w = absurd (true≢false (sym w ∙ e))
next n l h (o ∷ os) e w = within (leb l o) (leb o h) refl refl
  where
    stays : next_octet (record { more = n; low = l; high = h }) o ≡ cond (leb l o && leb o h) (awaiting (n - 1) 128 191) None
    stays = rw e refl

    read : utf8_after (cond (leb l o && leb o h) (awaiting (n - 1) 128 191) None) os ≡ true
    read = sym (ap (λ v. utf8_after v os) stays) ∙ w

    within : (a b : Bool) → leb l o ≡ a → leb o h ≡ b → Next l h n (o ∷ os)
    within true true f g = record { octet = o; rest = os; is = refl; low = leb-true l o f; high = leb-true o h g; whole = subst (λ c. utf8_after (cond c (awaiting (n - 1) 128 191) None) os ≡ true) (ap₂ (λ a b. a && b) f g) read }
    within true false f g = absurd (true≢false (sym read ∙ ap (λ c. utf8_after (cond c (awaiting (n - 1) 128 191) None) os) (ap₂ (λ a b. a && b) f g)))
    within false b f g = absurd (true≢false (sym read ∙ ap (λ c. utf8_after (cond c (awaiting (n - 1) 128 191) None) os) (ap₂ (λ a b. a && b) f g)))

-- a character before a text
before : (c : ℕ) (qs rest os : List ℕ) → scalar c ≡ true → encode c ≡ qs → os ≡ qs ++ rest → IsUtf8 rest → IsUtf8 os
before c qs rest os s e i h = subst IsUtf8 (ap (λ xs. xs ++ rest) e ∙ sym i) (IsUtf8-append (encode c) rest (IsUtf8-encode c s) h)

high_scalar : (c : ℕ) → 57344 ≤ c → c < 1114112 → scalar c ≡ true
high_scalar c h l = rw (le-ltb c 55296 (omega arith), le-leb 57344 c h, lt-ltb c 1114112 l) refl

-- the character of two, three and four octets
abbrev two_of : ℕ → ℕ → ℕ
two_of o p = (o - 192) * 64 + (p - 128)

abbrev three_of : ℕ → ℕ → ℕ → ℕ
three_of o p q = (o - 224) * 4096 + (p - 128) * 64 + (q - 128)

abbrev four_of : ℕ → ℕ → ℕ → ℕ → ℕ
four_of o p q r = (o - 240) * 262144 + (p - 128) * 4096 + (q - 128) * 64 + (r - 128)

octets_of_two : (o p : ℕ) → 194 ≤ o → o < 224 → 128 ≤ p → p ≤ 191 → encode (two_of o p) ≡ o ∷ p ∷ []
octets_of_two o p h l f g = encode_two (two_of o p) (omega arith) (omega arith)
    ∙ ap₂ (λ (a b : ℕ). a ∷ b ∷ []) (let e : 192 + two_of o p / 64 ≡ o = omega arith in e) (let e : 128 + two_of o p % 64 ≡ p = omega arith in e)

octets_of_three : (o p q : ℕ) → 224 ≤ o → o < 240 → 128 ≤ p → p ≤ 191 → 128 ≤ q → q ≤ 191 → 2048 ≤ three_of o p q → encode (three_of o p q) ≡ o ∷ p ∷ q ∷ []
octets_of_three o p q h l f g i j k = encode_three (three_of o p q) k (omega arith)
    ∙ ap₂ (λ (a b : ℕ). a ∷ b ∷ (128 + three_of o p q % 64) ∷ []) (let e : 224 + three_of o p q / 4096 ≡ o = omega arith in e) (let e : 128 + three_of o p q / 64 % 64 ≡ p = omega arith in e)
    ∙ ap (λ (a : ℕ). o ∷ p ∷ a ∷ []) (let e : 128 + three_of o p q % 64 ≡ q = omega arith in e)

octets_of_four : (o p q r : ℕ) → 240 ≤ o → 128 ≤ p → p ≤ 191 → 128 ≤ q → q ≤ 191 → 128 ≤ r → r ≤ 191 → 65536 ≤ four_of o p q r → encode (four_of o p q r) ≡ o ∷ p ∷ q ∷ r ∷ []
octets_of_four o p q r h f g i j m n k = encode_four (four_of o p q r) k
    ∙ ap₂ (λ (a b : ℕ). a ∷ b ∷ (128 + four_of o p q r / 64 % 64) ∷ (128 + four_of o p q r % 64) ∷ []) (let e : 240 + four_of o p q r / 262144 ≡ o = omega arith in e) (let e : 128 + four_of o p q r / 4096 % 64 ≡ p = omega arith in e)
    ∙ ap₂ (λ (a b : ℕ). o ∷ p ∷ a ∷ b ∷ []) (let e : 128 + four_of o p q r / 64 % 64 ≡ q = omega arith in e) (let e : 128 + four_of o p q r % 64 ≡ r = omega arith in e)

-- what follows a character is a text
abbrev Follows : ℕ → Type 0
Follows n = (os : List ℕ) → length os ≤ n → utf8_after (awaiting 0 0 0) os ≡ true → IsUtf8 os

two_text : (n o : ℕ) (os : List ℕ) → Follows n → length os ≤ n → 194 ≤ o → o < 224 → utf8_after (awaiting 1 128 191) os ≡ true → IsUtf8 (o ∷ os)
two_text n o os f k h l w = before (two_of o x.octet) (o ∷ x.octet ∷ []) x.rest (o ∷ os) (low_scalar (two_of o x.octet) (let a = x.low in let b = x.high in omega arith)) (octets_of_two o x.octet h l x.low x.high)
    (ap (λ qs. o ∷ qs) x.is) (f x.rest (let e = ap length x.is in omega arith) (sym (ended 128 191 x.rest) ∙ x.whole))
  where
    x : Next 128 191 1 os
    x = next 1 128 191 os refl w

three_text : (n o l h : ℕ) (os : List ℕ) → Follows n → length os ≤ n → 224 ≤ o → o < 240 → 128 ≤ l → h ≤ 191 →
    ((p q : ℕ) → l ≤ p → p ≤ h → 128 ≤ q → q ≤ 191 → (2048 ≤ three_of o p q) × (scalar (three_of o p q) ≡ true)) → utf8_after (awaiting 2 l h) os ≡ true → IsUtf8 (o ∷ os)
three_text n o l h os f k i j a b ok w = before (three_of o x.octet y.octet) (o ∷ x.octet ∷ y.octet ∷ []) y.rest (o ∷ os) both_so.1
    (octets_of_three o x.octet y.octet i j (let c = x.low in omega arith) (let c = x.high in omega arith) y.low y.high both_so.0)
    (ap (λ qs. o ∷ qs) (x.is ∙ ap (λ qs. x.octet ∷ qs) y.is)) (f y.rest (let e = ap length x.is in let d = ap length y.is in omega arith) (sym (ended 128 191 y.rest) ∙ y.whole))
  where
    x : Next l h 2 os
    x = next 2 l h os refl w

    y : Next 128 191 1 x.rest
    y = next 1 128 191 x.rest refl x.whole

    both_so : (2048 ≤ three_of o x.octet y.octet) × (scalar (three_of o x.octet y.octet) ≡ true)
    both_so = ok x.octet y.octet x.low x.high y.low y.high

four_text : (n o l h : ℕ) (os : List ℕ) → Follows n → length os ≤ n → 240 ≤ o → 128 ≤ l → h ≤ 191 →
    ((p q r : ℕ) → l ≤ p → p ≤ h → 128 ≤ q → q ≤ 191 → 128 ≤ r → r ≤ 191 → (65536 ≤ four_of o p q r) × (four_of o p q r < 1114112)) → utf8_after (awaiting 3 l h) os ≡ true → IsUtf8 (o ∷ os)
four_text n o l h os f k i a b ok w = before (four_of o x.octet y.octet z.octet) (o ∷ x.octet ∷ y.octet ∷ z.octet ∷ []) z.rest (o ∷ os) (high_scalar (four_of o x.octet y.octet z.octet) (let c = both_so.0 in omega arith) both_so.1)
    (octets_of_four o x.octet y.octet z.octet i (let c = x.low in omega arith) (let c = x.high in omega arith) y.low y.high z.low z.high both_so.0)
    (ap (λ qs. o ∷ qs) (x.is ∙ ap (λ qs. x.octet ∷ qs) (y.is ∙ ap (λ qs. y.octet ∷ qs) z.is)))
    (f z.rest (let e = ap length x.is in let d = ap length y.is in let c = ap length z.is in omega arith) (sym (ended 128 191 z.rest) ∙ z.whole))
  where
    x : Next l h 3 os
    x = next 3 l h os refl w

    y : Next 128 191 2 x.rest
    y = next 2 128 191 x.rest refl x.whole

    z : Next 128 191 1 y.rest
    z = next 1 128 191 y.rest refl y.whole

    both_so : (65536 ≤ four_of o x.octet y.octet z.octet) × (four_of o x.octet y.octet z.octet < 1114112)
    both_so = ok x.octet y.octet z.octet x.low x.high y.low y.high z.low z.high

-- the first octet tells how many there are
text_of : (n o : ℕ) (os : List ℕ) → Follows n → length os ≤ n → utf8_after (first_octet o) os ≡ true → IsUtf8 (o ∷ os)
text_of n o os f k w = elim (cases_lt o 128) [
  | inl h ↦ before o (o ∷ []) os (o ∷ os) (low_scalar o (omega arith)) (encode_one o h) refl (f os k (read (first_ascii o h)))
  | inr h ↦ (elim (cases_lt o 224) [
    | inl l ↦ (elim (cases_lt o 194) [
      | inl m ↦ absurd (true≢false (sym (read (first_none_low o h m))))
      | inr m ↦ two_text n o os f k m l (read (first_two o m l))
    ])
    | inr l ↦ (elim (cases_lt o 240) [ inl m ↦ three l m | inr m ↦ four m ])
  ])
]
  where
    read : {v : Option Awaited} → first_octet o ≡ v → utf8_after v os ≡ true
    read e = sym (ap (λ v. utf8_after v os) e) ∙ w

    three : 224 ≤ o → o < 240 → IsUtf8 (o ∷ os)
    three l m = elim (cases_lt o 237) [
      | inl i ↦ (elim (cases_lt 224 o) [
        | inl j ↦ three_text n o 128 191 os f k l m (omega arith) (omega arith) (λ p q a b c d. (omega arith, low_scalar (three_of o p q) (omega arith))) (read (first_three o j m (λ e. omega arith)))
        | inr j ↦ three_text n o 160 191 os f k l m (omega arith) (omega arith) (λ p q a b c d. (omega arith, low_scalar (three_of o p q) (omega arith))) (read (ap first_octet (let e : o ≡ 224 = omega arith in e)))
      ])
      | inr i ↦ (elim (cases_lt 237 o) [
        | inl j ↦ three_text n o 128 191 os f k l m (omega arith) (omega arith) (λ p q a b c d. (omega arith, high_scalar (three_of o p q) (omega arith) (omega arith))) (read (first_three o (omega arith) m (λ e. omega arith)))
        | inr j ↦ three_text n o 128 159 os f k l m (omega arith) (omega arith) (λ p q a b c d. (omega arith, low_scalar (three_of o p q) (omega arith))) (read (ap first_octet (let e : o ≡ 237 = omega arith in e)))
      ])
    ]

    four : 240 ≤ o → IsUtf8 (o ∷ os)
    four m = elim (cases_lt o 244) [
      | inl i ↦ (elim (cases_lt 240 o) [
        | inl j ↦ four_text n o 128 191 os f k m (omega arith) (omega arith) (λ p q r a b c d g h. (omega arith, omega arith)) (read (first_four o j i))
        | inr j ↦ four_text n o 144 191 os f k m (omega arith) (omega arith) (λ p q r a b c d g h. (omega arith, omega arith)) (read (ap first_octet (let e : o ≡ 240 = omega arith in e)))
      ])
      | inr i ↦ (elim (cases_lt 244 o) [
        | inl j ↦ absurd (true≢false (sym (read (first_none_high o j))))
        | inr j ↦ four_text n o 128 143 os f k m (omega arith) (omega arith) (λ p q r a b c d g h. (omega arith, omega arith)) (read (ap first_octet (let e : o ≡ 244 = omega arith in e)))
      ])
    ]

text_read : (n : ℕ) → Follows n
text_read n [] h w = IsUtf8-nil
text_read zero (o ∷ os) h w = absurd (omega arith)
text_read (suc n) (o ∷ os) h w = text_of n o os (text_read n) (omega arith) w

-- X.680 41: the octets of a UTF8String are those of a Rust text
pub IsUtf8-is_text : (os : List ℕ) → is_text TextKind.utf8 os ≡ true → IsUtf8 os
unfolding is_text
IsUtf8-is_text os h = text_read (length os) os (omega arith) h

-- no other octets are
pub is_text-false : (os : List ℕ) → ¬ IsUtf8 os → is_text TextKind.utf8 os ≡ false
is_text-false os h = go (is_text TextKind.utf8 os) refl
  where
    go : (b : Bool) → is_text TextKind.utf8 os ≡ b → is_text TextKind.utf8 os ≡ false
    go true e = absurd (h (IsUtf8-is_text os e))
    go false e = e

pub is_text-string_bytes : {Z : Type 0} (text : String Z) → is_text TextKind.utf8 (string_bytes text) ≡ true
is_text-string_bytes text = is_text-IsUtf8 (string_bytes text) (IsUtf8-string_bytes text)
