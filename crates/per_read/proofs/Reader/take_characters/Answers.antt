use Rattle.std.proofs.Common.{◌≡◌, ◌∙◌, inr, ap, map, refl, subst, Some}
use Rattle.rasn_types.specs.Variants.{variant_of}
use Rattle.rasn_schema.specs.Forms.{alphabet_of, size_of, is_size_marked}
use Rattle.per_core.specs.Spellings.{Took, NoneIn}
use Rattle.rasn_types.specs.Alphabets.{char_code, char_width}
use Rattle.per_core.specs.Lengths.{counted_items}
use Rattle.per_read.specs.Kinds.{Faulty}
use Rattle.per_core.specs.SizeFaults.{IsOfItems, HasUnknown}
use Rattle.per_read.specs.ReaderState.{ReaderState, settings_of}
use Rattle.per_core.specs.declared.items.Item.TheVariants.{Character}
use Rattle.per_read.proofs.Refusals.{faulty_map}
use Rattle.per_read.proofs.CharacterCodes.{same_alphabet, characters_took, none_of_characters, string_kind, unpermitted, read_known, read_unknown}
use Rattle.per_read.proofs.Calls.{answers, refuses, passes_on}
use Rattle.per_read.proofs.FragmentItems.{are_gathered}
use Rattle.per_read.proofs.Reader.take_characters.Goals as goal

pub returns-in_err-take_items : goal.returns-in_err-take_items
returns-in_err-take_items g c =
    let a = settings_of c.args.self.now in
    let size = size_of c.args.constraints.now in
    let mark = is_size_marked c.args.constraints.now in
    let alphabet = alphabet_of g.S.StaticPermittedAlphabet.alphabet c.args.constraints.now in
    let e = c.from_alphabet.ensures ∙ same_alphabet c.alphabet_under.result (variant_of c.args.self.now.options.codec) alphabet (c.alphabet_under.ensures.variant ∙ ap (λ (s : ReaderState). variant_of s.options.codec) c.self.view_is) c.alphabet_under.ensures.characters in
    let h = subst (λ z. Faulty (IsOfItems a size mark (Character (char_width z.variant z.characters)) c.args.self.now.bits) (NoneIn (counted_items a size mark (Character (char_width z.variant z.characters))) c.args.self.now.bits)
    c.in_err-take_items.field-0.0) e (rw c.size.ensures at c.in_err-take_items.ensures.err) in
    passes_on _ _ c.from_residual.ensures.1 c.in_err-take_items.ensures.kept (faulty_map _ (string_kind a alphabet size mark c.args.self.now.bits _) (none_of_characters a alphabet size mark) h)

pub returns-then-characters : goal.returns-then-characters
returns-then-characters g c =
    let a = settings_of c.args.self.now in
    let size = size_of c.args.constraints.now in
    let mark = is_size_marked c.args.constraints.now in
    let alphabet = alphabet_of g.S.StaticPermittedAlphabet.alphabet c.args.constraints.now in
    let e = c.from_alphabet.ensures ∙ same_alphabet c.alphabet_under.result (variant_of c.args.self.now.options.codec) alphabet (c.alphabet_under.ensures.variant ∙ ap (λ (s : ReaderState). variant_of s.options.codec) c.self.view_is) c.alphabet_under.ensures.characters in
    let h = are_gathered (rw c.size.ensures at c.in_ok-take_items.ensures.ok) (refl, ap (λ z. map (char_code c.from_alphabet.result.variant c.from_alphabet.result.characters) z) c.new.ensures) in
    let u = subst (λ z. HasUnknown z.variant z.characters h.codes × Took (counted_items a size mark (Character (char_width z.variant z.characters)) h.codes) c.args.self.now.bits
    c.take_items.new.self.bits) e (read_unknown c.from_alphabet.result _ (g.S.StaticPermittedAlphabet.characters c.take_items.new.items.string) h.codes c.if-characters.true h.held.1, h.took) in
    refuses _ c.in_ok-take_items.ensures.kept (inr (unpermitted a alphabet size mark h.codes u.0 u.1))

pub returns : goal.returns
returns g c =
    let a = settings_of c.args.self.now in
    let size = size_of c.args.constraints.now in
    let mark = is_size_marked c.args.constraints.now in
    let alphabet = alphabet_of g.S.StaticPermittedAlphabet.alphabet c.args.constraints.now in
    let e = c.from_alphabet.ensures ∙ same_alphabet c.alphabet_under.result (variant_of c.args.self.now.options.codec) alphabet (c.alphabet_under.ensures.variant ∙ ap (λ (s : ReaderState). variant_of s.options.codec) c.self.view_is) c.alphabet_under.ensures.characters in
    let h = are_gathered (rw c.size.ensures at c.in_ok-take_items.ensures.ok) (refl, ap (λ z. map (char_code c.from_alphabet.result.variant c.from_alphabet.result.characters) z) c.new.ensures) in
    let u = subst (λ z. (map (char_code z.variant z.characters) (g.S.StaticPermittedAlphabet.characters c.take_items.new.items.string) ≡ map Some h.codes) × Took (counted_items a size mark (Character (char_width z.variant z.characters)) h.codes) c.args.self.now.bits
    c.take_items.new.self.bits) e (read_known c.from_alphabet.result _ (g.S.StaticPermittedAlphabet.characters c.take_items.new.items.string) h.codes c.if-characters.false h.held.1, h.took) in
    answers _ c.in_ok-take_items.ensures.kept (characters_took a alphabet size mark _ h.codes u.0 u.1)
