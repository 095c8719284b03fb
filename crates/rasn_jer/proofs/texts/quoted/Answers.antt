use Rattle.std.proofs.Common.{◌≡◌, ap, ap₂, ◌∙◌, List, [], ◌∷◌, ◌++◌, ℕ}
use Rattle.json.specs.Print.{print}
use Rattle.json.specs.Token.{Token}
use Rattle.rasn_jer.proofs.Printed.{string_printed}
use Rattle.rasn_jer.proofs.texts.quoted.Goals as goal

pub returns : goal.returns
returns g c =
    let s = c.args.characters.now in
    let before : c.string.new.self.before ≡ [] = c.in_ok-string.ensures.room.0 ∙ c.new-writer.ensures.before ∙ c.new.ensures.items in
    let tokens : c.string.new.self.tokens ≡ Token.string s ∷ [] = c.in_ok-string.ensures.ok ∙ ap (λ (ts : List Token). ts ++ Token.string s ∷ []) c.new-writer.ensures.tokens in
    c.into_inner.ensures.items ∙ ap₂ (λ (b : List ℕ) (ts : List Token). b ++ print ts) before tokens ∙ string_printed s
