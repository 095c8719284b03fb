-- Items of as many bits each, read one after the other.
use Rattle.std.proofs.Common.{Bool, true, false, map, zero, ◌/◌, ap₂, take, drop, replicate, length-take, length-drop, Vec, Global, ◌≡◌, ◌<◌, ◌≤◌, ℕ, suc, ◌+◌, ◌-◌, ◌*◌, ◌%◌, ◌^◌, List, [], ◌∷◌, ◌++◌, length, refl, sym, ◌∙◌, ap, subst, arith, append_assoc, length-append}
use Rattle.std.proofs.Math.Nat.{mul-add, mul-suc, mul-le-mul_left}
use Rattle.std.proofs.lemmas.List.{take_all, take-append-drop, take-append-le, append-nil, length-map, map-append}
use Rattle.rasn_types.specs.Bits.{Bits, number_of, pack, to_bits}
use Rattle.rasn_types.specs.Packed.{packed}
use Rattle.rasn_types.proofs.Bits.{length-to_bits, number-to_bits, to_bits-split}
use Rattle.rasn_types.proofs.Octets.{length-pack}
use Rattle.per_core.specs.Writers.{after}
use Rattle.per_core.specs.Spellings.{BitField, Spelling, bit_offset, Took}
use Rattle.per_core.specs.Basic.{OneByOne}
use Rattle.per_core.proofs.TakenInTurn.{took_then, then_took, took_nothing, nothing_took}
use Rattle.per_read.specs.Items.{Adds, TookItems, bit_code}

module _ (w : ℕ) where
  -- items are spelled alike from every position
  items_anywhere : (xs : List ℕ) (p q : ℕ) (b : Bits) → OneByOne (BitField w) xs p b → OneByOne (BitField w) xs q b
  items_anywhere [] p q b h = h
  items_anywhere (x ∷ xs) p q b h = record {
    front = h.front;
    rest = h.rest;
    is_front = record { wide = h.is_front.wide; means = h.is_front.means };
    is_rest = items_anywhere xs (after p h.front) (after q h.front) h.rest h.is_rest;
    joins = h.joins;
  }

  pub items_wide : (xs : List ℕ) {s t : Bits} → Took (OneByOne (BitField w) xs) s t → w * length xs ≤ length s
  items_wide [] a = omega arith
  items_wide (x ∷ xs) {s} {t} a =
      let q = then_took a in
      let l : length s ≡ length q.1.front + length q.0 = ap length q.1.joins ∙ length-append q.1.front q.0 in
      omega (arith, q.1.spelled.wide, items_wide xs q.2, mul-suc w (length xs))

  pub items_exact : (xs : List ℕ) {s t : Bits} (a : Took (OneByOne (BitField w) xs) s t) → length a.front ≡ w * length xs
  items_exact xs a = go xs _ a.front a.spelled
    where
      go : (xs : List ℕ) (p : ℕ) (b : Bits) → OneByOne (BitField w) xs p b → length b ≡ w * length xs
      go [] p b h = ap length h ∙ omega arith
      go (x ∷ xs) p b h = omega (arith, ap length h.joins, length-append h.front h.rest, h.is_front.wide, go xs _ h.rest h.is_rest, mul-suc w (length xs))

  items_far : (xs ys : List ℕ) {s m t : Bits} → Took (OneByOne (BitField w) xs) s m → Took (OneByOne (BitField w) ys) m t → Took (OneByOne (BitField w) (xs ++ ys)) s t
  items_far [] ys {t = t} a b = subst (λ z. Took (OneByOne (BitField w) ys) z t) (sym (nothing_took a)) b
  items_far (x ∷ xs) ys a b = let q = then_took a in took_then q.1 (items_far xs ys q.2 b)

  items_more : (xs : List ℕ) (x : ℕ) {s m t : Bits} → Took (OneByOne (BitField w) xs) s m → Took (BitField w x) m t → Took (OneByOne (BitField w) (xs ++ x ∷ [])) s t
  items_more xs x {t = t} a b = items_far xs (x ∷ []) a (took_then b (took_nothing t))

-- with what is after the items
pub took_within : (w : ℕ) {front s t : Bits} (codes : List ℕ) → Took (OneByOne (BitField w) codes) front [] → s ≡ front ++ t → Took (OneByOne (BitField w) codes) s t
took_within w {front} {s} {t} codes h e = record {
  front = h.front;
  joins = e ∙ ap (λ z. z ++ t) (h.joins ∙ append-nil h.front);
  spelled = items_anywhere w codes (bit_offset front) (bit_offset s) h.front h.spelled;
}

-- items that were appended one after the other
pub adds_none : {C : Type 0} (holds : C → C → List ℕ → Type 0) (items : C) → Adds holds items [] items
adds_none holds items = record { behind = λ start xs h. subst (λ z. holds start items z) (sym (append-nil xs)) h }

pub adds_more : {C : Type 0} {holds : C → C → List ℕ → Type 0} {first second third : C} {xs ys : List ℕ} → Adds holds first xs second → Adds holds second ys third → Adds holds first (xs ++ ys) third
adds_more {holds = holds} {third = third} {xs = xs} {ys = ys} a b = record { behind = λ start zs h. subst (λ z. holds start third z) (append_assoc zs xs ys) (b.behind start (zs ++ xs) (a.behind start zs h)) }

-- the first `i` of `count` items
pub record FirstItems {C : Type 0} (holds : C → C → List ℕ → Type 0) (w : ℕ) (front here : Bits) (before items : C) (i count : ℕ) : Type 0 where
  pub these : List ℕ
  pub many : length these ≡ i
  pub within : i ≤ count
  pub added : Adds holds before these items
  pub left : length here + w * i ≡ w * count
  pub took : Took (OneByOne (BitField w) these) front here

-- before the first
pub first_begin : {C : Type 0} (holds : C → C → List ℕ → Type 0) (w : ℕ) (front : Bits) (items : C) (count : ℕ) → length front ≡ w * count → FirstItems holds w front front items items 0 count
first_begin holds w front items count l = record {
  these = [];
  many = refl;
  within = omega arith;
  added = adds_none holds items;
  left = omega arith;
  took = took_nothing front;
}

-- with one more
pub first_go_on : {C : Type 0} {holds : C → C → List ℕ → Type 0} {w : ℕ} {front here rest : Bits} {before items more : C} {i count : ℕ} (x : ℕ) → FirstItems holds w front here before items i count → i < count
    → Took (BitField w x) here rest → Adds holds items (x ∷ []) more → FirstItems holds w front rest before more (i + 1) count
first_go_on {w = w} {here = here} {rest} {i = i} x h k a b = record {
  these = h.these ++ x ∷ [];
  many = omega (arith, h.many, length-append h.these (x ∷ []));
  within = omega arith;
  added = adds_more h.added b;
  left = omega (arith, h.left, a.spelled.wide, ap length a.joins, length-append a.front rest, mul-suc w i);
  took = items_more w h.these x h.took a;
}

-- with all that a word has
pub first_go_far : {C : Type 0} {holds : C → C → List ℕ → Type 0} {w : ℕ} {front here word rest : Bits} {before items more : C} {i n count : ℕ} → FirstItems holds w front here before items i count → i + n ≤ count
    → here ≡ word ++ rest → length word ≡ w * n → TookItems holds (OneByOne (BitField w)) n items more word [] → FirstItems holds w front rest before more (i + n) count
first_go_far {w = w} {word = word} {rest} {i = i} {n} h k e l b = record {
  these = h.these ++ b.codes;
  many = omega (arith, h.many, b.count, length-append h.these b.codes);
  within = k;
  added = adds_more h.added b.added;
  left = omega (arith, h.left, l, ap length e, length-append word rest, mul-add w i n);
  took = items_far w h.these b.codes h.took (took_within w b.codes b.took e);
}

-- the items of a word are left
pub word_left : {C : Type 0} {holds : C → C → List ℕ → Type 0} {w : ℕ} {front here : Bits} {before items : C} {i count : ℕ} (n : ℕ) → FirstItems holds w front here before items i count → i + n ≤ count → w * n ≤ length here
word_left {w = w} {i = i} n h k = omega (arith, h.left, mul-add w i n, mul-le-mul_left {m = i + n} w k)

-- there is a further one
pub one_more_left : {C : Type 0} {holds : C → C → List ℕ → Type 0} {w : ℕ} {front here : Bits} {before items : C} {i count : ℕ} → FirstItems holds w front here before items i count → i < count → w ≤ length here
one_more_left {w = w} {i = i} h k = omega (arith, h.left, mul-suc w i, mul-le-mul_left {m = suc i} w k)

-- with all of them
pub no_more : {A : Type 0} (xs : List A) → length xs ≡ 0 → xs ≡ []
no_more [] l = refl
no_more (x ∷ xs) l = absurd (omega arith)

pub first_end : {C : Type 0} {holds : C → C → List ℕ → Type 0} {w : ℕ} {front here s t : Bits} {before items : C} {i count : ℕ} → FirstItems holds w front here before items i count → count ≤ i → s ≡ front ++ t
    → TookItems holds (OneByOne (BitField w)) count before items s t
first_end {w = w} {front} {here} {s} {t} {i = i} h l e =
    let n : here ≡ [] = no_more here (omega (arith, h.left, mul-le-mul_left w l)) in
    let f : front ≡ h.took.front = h.took.joins ∙ ap (λ z. h.took.front ++ z) n ∙ append-nil h.took.front in
    record {
      codes = h.these;
      count = omega (arith, h.many, h.within);
      added = h.added;
      took = record { front = h.took.front; joins = e ∙ ap (λ z. z ++ t) f; spelled = items_anywhere w h.these (bit_offset front) (bit_offset s) h.took.front h.took.spelled };
    }

-- with what is after the items
pub items_within : {C : Type 0} {holds : C → C → List ℕ → Type 0} {w : ℕ} {front s t : Bits} {before items : C} {count : ℕ} → TookItems holds (OneByOne (BitField w)) count before items front [] → s ≡ front ++ t → TookItems holds (OneByOne (BitField w)) count before items s t
items_within {w = w} h e = record { codes = h.codes; count = h.count; added = h.added; took = took_within w h.codes h.took e }

-- an item that was taken
pub field_taken : (w x : ℕ) (s item t : Bits) → s ≡ item ++ t → length item ≡ w → x ≡ number_of (take w item) → Took (BitField w x) s t
field_taken w x s item t e l n = record {
  front = item;
  joins = e;
  spelled = record { wide = l; means = sym (n ∙ ap number_of (take_all w item (omega arith))) };
}

-- the next item of a word
pub field_between : (w l n x : ℕ) → w ≤ l → x ≡ n / 2 ^ (l - w) % 2 ^ w → Took (BitField w x) (to_bits l n) (to_bits (l - w) n)
field_between w l n x h e = record {
  front = to_bits w (n / 2 ^ (l - w));
  joins = ap (λ (k : ℕ). to_bits k n) (let i : l ≡ w + (l - w) = omega arith in i) ∙ to_bits-split w (l - w) n;
  spelled = record { wide = length-to_bits w (n / 2 ^ (l - w)); means = number-to_bits w (n / 2 ^ (l - w)) ∙ sym e };
}

-- octets one by one
pub octets_one_by_one : (n : ℕ) (front : Bits) → length front ≡ 8 * n → Took (OneByOne (BitField 8) (pack n front)) front []
octets_one_by_one zero front l = subst (λ z. Took (OneByOne (BitField 8) []) z []) (sym (no_more front (omega arith))) (took_nothing [])
octets_one_by_one (suc n) front l = took_then {f = BitField 8 (number_of (take 8 (front ++ replicate 8 false)))} {g = OneByOne (BitField 8) (pack n (drop 8 front))} {s = front} {m = drop 8 front} {t = []} (record {
  front = take 8 front;
  joins = sym (take-append-drop 8 front);
  spelled = record {
    wide = length-take 8 front ∙ omega arith;
    means = ap number_of (sym (take-append-le 8 front (replicate 8 false) (omega arith)));
  };
}) (octets_one_by_one n (drop 8 front) (length-drop 8 front ∙ omega arith))

pub octets_gathered : (before items : Vec ℕ Global) (n : ℕ) (here : Bits) → length here ≡ 8 * n → items.items ≡ before.items ++ packed here → TookItems (λ _ octets codes. octets.items ≡ codes) (OneByOne (BitField 8)) n before items here []
octets_gathered before items n here l e = record {
  codes = pack n here;
  count = length-pack n here;
  added = record { behind = λ start xs h. e ∙ ap₂ (λ os qs. os ++ qs) h (ap (λ (m : ℕ). pack m here) (let i : (length here + 7) / 8 ≡ n = omega arith in i)) };
  took = octets_one_by_one n here l;
}

pub octets_skipped : {C : Type 0} (before after : C) (n : ℕ) (here : Bits) → length here ≡ 8 * n → TookItems (λ _ _ _. Unit {0}) (OneByOne (BitField 8)) n before after here []
octets_skipped before after n here l = record {
  codes = pack n here;
  count = length-pack n here;
  added = record { behind = λ start xs h. tt };
  took = octets_one_by_one n here l;
}

-- bits one after another
bit_means : (b : Bool) → number_of (b ∷ []) ≡ bit_code b
bit_means true = refl
bit_means false = refl

pub bits_one_by_one : (here : Bits) → Took (OneByOne (BitField 1) (map bit_code here)) here []
bits_one_by_one [] = took_nothing []
bits_one_by_one (b ∷ bs) = took_then {f = BitField 1 (bit_code b)} {g = OneByOne (BitField 1) (map bit_code bs)} {s = b ∷ bs} {m = bs} {t = []} (record {
  front = b ∷ [];
  joins = refl;
  spelled = record { wide = refl; means = bit_means b };
}) (bits_one_by_one bs)

pub bits_gathered : (before items : Bits) (n : ℕ) (here : Bits) → length here ≡ 1 * n → items ≡ before ++ here → TookItems (λ _ bits codes. map bit_code bits ≡ codes) (OneByOne (BitField 1)) n before items here []
bits_gathered before items n here l e = record {
  codes = map bit_code here;
  count = length-map here bit_code ∙ omega arith;
  added = record { behind = λ start xs h. ap (map bit_code) e ∙ map-append bit_code before here ∙ ap (λ cs. cs ++ map bit_code here) h };
  took = bits_one_by_one here;
}

-- bits that were appended to none are as many as were counted
pub bits_counted : {form : List ℕ → Spelling} {n : ℕ} {before after s t : Bits} → TookItems (λ _ bits codes. map bit_code bits ≡ codes) form n before after s t → before ≡ [] → length after ≡ n
bits_counted {after = after} h e = sym (length-map after bit_code) ∙ ap length (h.added.behind [] [] (ap (map bit_code) e)) ∙ h.count
