use Rattle.std.proofs.Common.{option_map, ◌≡◌, ◌∙◌, ◌<◌, ◌≤◌, ◌&&◌, ◌∷◌, [], ◌++◌, ℕ, Bool, true, false, cond, refl, sym, ap, subst, Some, None, inr, List, length, get_or, map-id, arith, rules, lt-ltb, le-ltb}
use Rattle.std.specs.Prelude.{nat_lt}
use Rattle.std.specs.Str.{chars}
use Rattle.std.specs.List.{list_all}
use Rattle.std.proofs.lemmas.Bool.{and_from}
use Rattle.std.proofs.lemmas.Iterator.{YieldsList-from_chars}
use Rattle.std.proofs.lemmas.Iterator.Consumers.{YieldsList-end, YieldsList-turn}
use Rattle.std.proofs.lemmas.List.Folds.{list_all-append, list_all_at}
use Rattle.rasn_types.specs.Values.{octets}
use Rattle.rasn_dynamic_jer.specs.FromJson.{latin_told}
use Rattle.rasn_dynamic_jer.proofs.Untold.{octets_slot}
use Rattle.rasn_dynamic_jer.proofs.read_simple.latin_of.Goals as goal

-- a character past 255
past : (cs : List ℕ) (i c : ℕ) → i < length cs → c ≡ get_or cs i c → 256 ≤ c → list_all (λ c. nat_lt c 256) cs ≡ false
past cs i c l e h = list_all_at (λ c. nat_lt c 256) cs i c l (le-ltb (get_or cs i c) 256 (subst (λ (k : ℕ). 256 ≤ k) e h))

refused : (s : List ℕ) → list_all (λ c. nat_lt c 256) (chars s) ≡ false → latin_told s ≡ None
refused s e = ap (λ b. cond b (Some (octets (chars s))) None) e

taken : (s : List ℕ) → list_all (λ c. nat_lt c 256) (chars s) ≡ true → latin_told s ≡ Some (octets (chars s))
taken s e = ap (λ b. cond b (Some (octets (chars s))) None) e

-- one more
more : (cs : List ℕ) (c : ℕ) → list_all (λ c. nat_lt c 256) cs ≡ true → c < 256 → list_all (λ c. nat_lt c 256) (cs ++ c ∷ []) ≡ true
more cs c e h = list_all-append (λ c. nat_lt c 256) cs (c ∷ []) ∙ and_from _ _ e (and_from _ _ (lt-ltb c 256 h) refl)

pub returns-then-number-gt255 : goal.returns-then-number-gt255
returns-then-number-gt255 c =
    let turn = YieldsList-turn (YieldsList-from_chars c.args.text.now c.utf8.text cc) c.loop-character.yielded _ c.loop-character.yielded_by _ _ c.in-Some.character c.in-Some.is c.next.ensures.steps in
    inr (refused c.args.text.now (past (chars c.args.text.now) (length c.loop-character.yielded) c.in-Some.character turn.0 turn.1 (omega arith)))

pub loop-character-preserved : goal.loop-character-preserved
loop-character-preserved c =
    let l = c.loop-character in
    let n : c.from-number.result ≡ c.in-Some.character = c.from-number.ensures in
    let h : c.in-Some.character < 256 = omega arith in
    (cc (c.in_ok-push.ensures.items, l.invariant.0, n), more l.yielded c.in-Some.character l.invariant.1 h)

pub returns : goal.returns
returns c =
    let end = YieldsList-end (YieldsList-from_chars c.args.text.now c.utf8.text cc) c.loop-character.yielded _ c.loop-character.yielded_by _ _ c.in-None.is c.next.ensures.steps in
    let same : c.loop-character.yielded ≡ chars c.args.text.now = sym (map-id c.loop-character.yielded) ∙ end.0 in
    let all : list_all (λ c. nat_lt c 256) (chars c.args.text.now) ≡ true = subst (λ (cs : List ℕ). list_all (λ c. nat_lt c 256) cs ≡ true) same c.loop-character.invariant.1 in
    let o : c.new.result ≡ chars c.args.text.now = c.new.ensures ∙ c.loop-character.invariant.0 ∙ same in
    ap (option_map Some) (taken c.args.text.now all) ∙ ap (λ os. Some (Some (octets os))) (sym o) ∙ ap Some (sym (octets_slot c.new.result))
