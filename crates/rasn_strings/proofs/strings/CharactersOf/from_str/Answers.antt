use Rattle.std.proofs.Common.{◌≡◌, ◌∙◌, ◌<◌, ℕ, List, true, false, refl, sym, subst, length, take, get_or, map-id}
use Rattle.std.specs.Str.{chars}
use Rattle.std.proofs.lemmas.Iterator.{YieldsList-from_chars}
use Rattle.std.proofs.lemmas.Iterator.Consumers.{YieldsList-end, YieldsList-so_far, YieldsList-turn}
use Rattle.std.proofs.lemmas.Option.{slice_get_read}
use Rattle.rasn_types.specs.Alphabets.{has, has_all}
use Rattle.rasn_strings.specs.Foreign.{IsFirstForeign}
use Rattle.rasn_strings.proofs.strings.CharactersOf.from_str.Goals as goal

-- the character after those of a type, if it isn't one, is the first foreign one
foreign_at : (own text done : List ℕ) (next : ℕ) → done ≡ take (length done) text → (length done < length text) × (next ≡ get_or text (length done) next) → has_all own done ≡ true → has own next ≡ false → IsFirstForeign own text next (length done)
foreign_at own text done next so_far turn all foreign =
    (slice_get_read text (length text) (length done) next refl turn.0 turn.1, (foreign, subst (λ (z : List ℕ). has_all own z ≡ true) so_far all))

pub returns-then-not-contains-clause-foreign : goal.returns-then-not-contains-clause-foreign
returns-then-not-contains-clause-foreign g c = λ character index e.
    let so_far = YieldsList-so_far (YieldsList-from_chars c.args.text.now c.utf8.text cc) c.loop-character.yielded _ c.loop-character.yielded_by in
    let turn = YieldsList-turn (YieldsList-from_chars c.args.text.now c.utf8.text cc) c.loop-character.yielded _ c.loop-character.yielded_by _ _ c.in-Some.character c.in-Some.is c.next.ensures.steps in
    let foreign : has g.K.CharacterKind.alphabet c.in-Some.character ≡ false = cc (c.if-not-contains.ensures) in
    let all : has_all g.K.CharacterKind.alphabet c.loop-character.yielded ≡ true = cc (c.string.invariant, c.string.view_is, c.loop-character.invariant) in
    let same : c.in-Some.character ≡ character = cc in
    let place : length c.loop-character.yielded ≡ index = cc in
    subst (λ (z : ℕ). IsFirstForeign g.K.CharacterKind.alphabet (chars c.args.text.now) z index) same
    (subst (λ (z : ℕ). IsFirstForeign g.K.CharacterKind.alphabet (chars c.args.text.now) c.in-Some.character z) place
    (foreign_at g.K.CharacterKind.alphabet (chars c.args.text.now) c.loop-character.yielded c.in-Some.character (sym (map-id c.loop-character.yielded) ∙ so_far) turn all foreign))

pub returns-clause-ok : goal.returns-clause-ok
returns-clause-ok g c =
    let end = YieldsList-end (YieldsList-from_chars c.args.text.now c.utf8.text cc) c.loop-character.yielded _ c.loop-character.yielded_by _ _ c.in-None.is c.next.ensures.steps in
    c.loop-character.invariant ∙ (sym (map-id c.loop-character.yielded) ∙ end.0)
