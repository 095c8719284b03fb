-- Numbers with the same contents octets are arcs of one object, or of none.
use Rattle.std.proofs.Common.{◌≡◌, refl, sym, ap, ◌∙◌, ℕ, Bool, true, false, not, List, [], ◌∷◌}
use Rattle.std.specs.Bool.{Decides}
use Rattle.std.proofs.lemmas.Bool.Decides.{same_from_decides}
use Rattle.rasn_types.specs.Contents.{is_identifier}
use Rattle.rasn_types.specs.Identifiers.{are_arcs, contents}
use Rattle.rasn_types.specs.Values.{Value, octets, same, code}
use Rattle.rasn_types.proofs.ContentsRead.{is_identifier-contents, one_contents}
use Rattle.rasn_traits.specs.Moments.{identifier_value}
use Rattle.rasn_codec.proofs.SameValues.{code_decides}

no_contents : (arcs : List ℕ) → are_arcs arcs ≡ false → contents arcs ≡ []
unfolding contents
no_contents [] e = refl
no_contents (a ∷ []) e = refl
no_contents (a ∷ b ∷ cs) e = rw e refl

same_octets : (xs ys : List ℕ) → code (octets xs) ≡ code (octets ys) → xs ≡ ys
unfolding code
same_octets xs ys e = cc

pub of_an_object : (r : Bool) (arcs others : List ℕ) → are_arcs arcs ≡ true → Decides r (arcs ≡ others)
    → r ≡ same (identifier_value arcs) (identifier_value others)
of_an_object r arcs others l d = same_from_decides r _ d (code_decides identifier_value arcs others one)
  where
    one : code (identifier_value arcs) ≡ code (identifier_value others) → arcs ≡ others
    one e =
        let h : contents arcs ≡ contents others = same_octets (contents arcs) (contents others) e in
        let k : are_arcs others ≡ true = sym (is_identifier-contents others) ∙ ap is_identifier (sym h) ∙ is_identifier-contents arcs ∙ l in
        one_contents arcs others l k h

pub of_none : (arcs others : List ℕ) → are_arcs arcs ≡ false
    → not (are_arcs others) ≡ same (identifier_value arcs) (identifier_value others)
unfolding is_identifier
of_none arcs others u = rw (no_contents arcs u) (same_from_decides (not (are_arcs others)) _ (none, empty)
    (code_decides octets [] (contents others) (same_octets [] (contents others))))
  where
    none : not (are_arcs others) ≡ true → [] ≡ contents others
    none e = sym (no_contents others (go (are_arcs others) e))
      where
        go : (b : Bool) → not b ≡ true → b ≡ false
        go true e = absurd (cc)
        go false e = refl

    empty : [] ≡ contents others → not (are_arcs others) ≡ true
    empty e = let k : are_arcs others ≡ false = sym (is_identifier-contents others) ∙ ap is_identifier (sym e) in rw k refl
