-- The words after the program's name.
use Rattle.std.specs.Prelude.{ℕ, ◌≡◌, ◌≢◌, List, [], ◌∷◌, ◌++◌, codes}
use Rattle.line_replies.specs.Codecs.{codec_word}
use Rattle.per_lines.specs.Types.{word_of}
use Rattle.per_lines.specs.declared.show_arguments.Extent.{Extent}
use Rattle.per_lines.specs.declared.show_arguments.Extent.TheVariants.{AllLines, FirstLine}
use Rattle.line_replies.specs.declared.layout.Layout.{Layout}
use Rattle.line_replies.specs.declared.layout.Layout.TheVariants.{Compact, Pretty}
use Rattle.per_lines.specs.declared.show_arguments.Request.{Request}
use Rattle.per_lines.specs.declared.show_arguments.Showing.{Showing}
use Rattle.per_lines.specs.declared.show_arguments.Request.TheVariants.{Help, Show}

-- nothing, or `--pretty`
abbrev pub layout_words : Layout → List (List ℕ)
layout_words Compact = []
layout_words Pretty = codes "--pretty" ∷ []

-- nothing, or `lines`
abbrev pub extent_words : Extent → List (List ℕ)
extent_words FirstLine = []
extent_words AllLines = codes "lines" ∷ []

-- which lines, and a layout
abbrev pub form_words : Extent → Layout → List (List ℕ)
form_words extent layout = extent_words extent ++ layout_words layout

-- a codec, a type, which lines, and a layout
abbrev pub shown_words : Showing → List (List ℕ)
shown_words a = codec_word a.codec ∷ word_of a.type_name ∷ form_words a.extent a.layout

-- `--help`, or what is shown
abbrev pub request_words : Request → List (List ℕ)
request_words Help = codes "--help" ∷ []
request_words (Show a) = shown_words a

-- words are those of no request
abbrev pub AskForNothing : List (List ℕ) → Type 0
AskForNothing words = (q : Request) → words ≢ request_words q
