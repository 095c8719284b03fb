use Rattle.std.proofs.Common.{◌≡◌, ap, ap₂, ◌∙◌, List, [], ◌∷◌, ◌++◌, append_assoc, ℕ}
use Rattle.json.specs.Print.{print, quoted}
use Rattle.json.specs.Token.{Token}
use Rattle.rasn_jer.proofs.Printed.{key_printed}
use Rattle.rasn_jer.proofs.texts.member.Goals as goal

pub returns : goal.returns
returns g c =
    let s = c.args.name.now in
    let before : c.key.new.self.before ≡ [] = c.in_ok-key.ensures.room.0 ∙ c.new-writer.ensures.before ∙ c.new.ensures.items in
    let tokens : c.key.new.self.tokens ≡ Token.key s ∷ [] = c.in_ok-key.ensures.ok ∙ ap (λ (ts : List Token). ts ++ Token.key s ∷ []) c.new-writer.ensures.tokens in
    let named : c.into_inner-named.result.items ≡ quoted s ++ 58 ∷ [] = c.into_inner-named.ensures.items ∙ ap₂ (λ (b : List ℕ) (ts : List Token). b ++ print ts) before tokens ∙ key_printed s in
    c.in_ok-extend_from_slice.ensures.items ∙ ap (λ (l : List ℕ). l ++ c.args.text.now) named ∙ append_assoc (quoted s) (58 ∷ []) c.args.text.now
