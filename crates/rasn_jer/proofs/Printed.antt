-- The text of a JSON value is what the toolchain's writer prints, and is read back as the value.
use Rattle.std.proofs.Common.{◌≡◌, ◌≤◌, Bool, true, false, not, List, [], ◌∷◌, ◌++◌, Some, refl, sym, ap, ◌∙◌, append_assoc, append-nil, ℕ}
use Rattle.json.specs.Json.{Json, null, boolean, number, string, array, object, Items, no_items, item, Members, no_members, member, document, max_depth}
use Rattle.json.specs.Print.{print, print_from, quoted}
use Rattle.json.specs.Token.{Token}
use Rattle.json.specs.Tree.{depth, HasNumbers, items_tokens, json_tokens, members_tokens}
use Rattle.json.proofs.Printed.Trees.{document-print}
use Rattle.rasn_jer.specs.Texts.{comma, items_text, members_text, text_of}

-- a name, its colon, its value and what follows
named_text : (q t m r : List ℕ) → (q ++ 58 ∷ []) ++ (t ++ (m ++ r)) ≡ ((q ++ (58 ∷ t)) ++ m) ++ r
named_text q t m r = append_assoc q (58 ∷ []) (t ++ (m ++ r)) ∙ sym (append_assoc q (58 ∷ t) (m ++ r)) ∙ sym (append_assoc (q ++ (58 ∷ t)) m r)

mutual
  unfolding print_from

  printed : (c : Bool) (j : Json) (rest : List Token) → print_from c (json_tokens j ++ rest) ≡ comma (not c) ++ (text_of j ++ print_from true rest)
  printed true null rest = refl
  printed false null rest = refl
  printed true (boolean true) rest = refl
  printed true (boolean false) rest = refl
  printed false (boolean true) rest = refl
  printed false (boolean false) rest = refl
  printed true (number s) rest = refl
  printed false (number s) rest = refl
  printed true (string s) rest = refl
  printed false (string s) rest = refl
  printed true (array js) rest = ap (λ (l : List ℕ). 44 ∷ 91 ∷ l) (printed_items true js rest ∙ sym (append_assoc (items_text true js) (93 ∷ []) _))
  printed false (array js) rest = ap (λ (l : List ℕ). 91 ∷ l) (printed_items true js rest ∙ sym (append_assoc (items_text true js) (93 ∷ []) _))
  printed true (object ms) rest = ap (λ (l : List ℕ). 44 ∷ 123 ∷ l) (printed_members true ms rest ∙ sym (append_assoc (members_text true ms) (125 ∷ []) _))
  printed false (object ms) rest = ap (λ (l : List ℕ). 123 ∷ l) (printed_members true ms rest ∙ sym (append_assoc (members_text true ms) (125 ∷ []) _))

  printed_items : (first : Bool) (js : Items) (rest : List Token) → print_from (not first) (items_tokens js ++ rest) ≡ items_text first js ++ (93 ∷ print_from true rest)
  printed_items true no_items rest = refl
  printed_items false no_items rest = refl
  printed_items true (item j js) rest =
      ap (print_from false) (append_assoc (json_tokens j) (items_tokens js) rest) ∙ printed false j (items_tokens js ++ rest)
      ∙ ap (λ (l : List ℕ). text_of j ++ l) (printed_items false js rest) ∙ sym (append_assoc (text_of j) (items_text false js) _)
  printed_items false (item j js) rest =
      ap (print_from true) (append_assoc (json_tokens j) (items_tokens js) rest) ∙ printed true j (items_tokens js ++ rest)
      ∙ ap (λ (l : List ℕ). 44 ∷ (text_of j ++ l)) (printed_items false js rest) ∙ ap (λ (l : List ℕ). 44 ∷ l) (sym (append_assoc (text_of j) (items_text false js) _))

  printed_members : (first : Bool) (ms : Members) (rest : List Token) → print_from (not first) (members_tokens ms ++ rest) ≡ members_text first ms ++ (125 ∷ print_from true rest)
  printed_members true no_members rest = refl
  printed_members false no_members rest = refl
  printed_members true (member k j ms) rest =
      ap (λ (l : List Token). (quoted k ++ 58 ∷ []) ++ print_from false l) (append_assoc (json_tokens j) (members_tokens ms) rest)
      ∙ ap (λ (l : List ℕ). (quoted k ++ 58 ∷ []) ++ l) (printed false j (members_tokens ms ++ rest) ∙ ap (λ (l : List ℕ). text_of j ++ l) (printed_members false ms rest))
      ∙ named_text (quoted k) (text_of j) (members_text false ms) (125 ∷ print_from true rest)
  printed_members false (member k j ms) rest =
      ap (λ (l : List ℕ). 44 ∷ l)
      (ap (λ (l : List Token). (quoted k ++ 58 ∷ []) ++ print_from false l) (append_assoc (json_tokens j) (members_tokens ms) rest)
      ∙ ap (λ (l : List ℕ). (quoted k ++ 58 ∷ []) ++ l) (printed false j (members_tokens ms ++ rest) ∙ ap (λ (l : List ℕ). text_of j ++ l) (printed_members false ms rest))
      ∙ named_text (quoted k) (text_of j) (members_text false ms) (125 ∷ print_from true rest))

nothing_after : (t : List ℕ) → t ++ print_from true [] ≡ t
unfolding print_from
nothing_after t = append-nil t

-- a string, and a name with its colon
pub string_printed : (s : List ℕ) → print (Token.string s ∷ []) ≡ quoted s
unfolding print_from
string_printed s = append-nil (quoted s)

pub key_printed : (s : List ℕ) → print (Token.key s ∷ []) ≡ quoted s ++ 58 ∷ []
unfolding print_from
key_printed s = append-nil (quoted s ++ 58 ∷ [])

-- the text is what is printed of the value's tokens
pub is_printed : (j : Json) → text_of j ≡ print (json_tokens j)
is_printed j =
    sym (ap (print_from false) (sym (append-nil (json_tokens j))) ∙ printed false j [] ∙ nothing_after (text_of j))

-- and is read back as it, to 128 levels
pub is_read : (j : Json) → HasNumbers j → depth j ≤ max_depth → document (text_of j) ≡ Some j
is_read j numbers shallow = ap document (is_printed j) ∙ document-print j numbers shallow
