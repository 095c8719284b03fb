-- The replies to the lines of an input, one by one.
use Rattle.std.proofs.Common.{◌≡◌, refl, sym, ap, subst, ◌∙◌, ℕ, Bool, true, false, List, [], ◌∷◌, ◌++◌, Option, Some, None, IfSome, append_assoc, append-nil}
use Rattle.std.specs.Prelude.{◌≢◌, IsSomeAnd, IfOk, IfErr, Result, Ok, Err}
use Rattle.std.specs.declared.io.ErrorKind.{ErrorKind}
use Rattle.std.specs.declared.io.ErrorKind.TheVariants as Kinds
use Rattle.std.specs.Io.BufRead.{drop_through}
use Rattle.std.specs.Io.KnownBytes.{Appends, Keeps, IsAtEnd, prepend_known}
use Rattle.std.specs.Io.Buffered.{reader_inner, reader_buffer, reader_capacity, reader_remaining}
use Rattle.std.specs.declared.io.buffered.BufReader.{BufReader}
use Rattle.line_replies.specs.declared.fault.Fault.{Fault}
use Rattle.line_replies.specs.declared.fault.Fault.TheVariants.{WrongArguments, CannotRead, BadHexadecimal, Decode, Encode, CannotWrite, OutOfMemory}
use Rattle.line_replies.specs.Lines.{lines_of, TakesLine}
use Rattle.line_replies.proofs.LineLaws.{lines-cons}
use Rattle.line_replies.specs.Faults.{AppendsFront, io_fault}
use Rattle.line_replies.specs.Printing.{AreReplies, BreaksReplies, PrintsReplies, PrintsNext, HasReplied, TakesTurns, EndsTurn, EndsReplies}

-- one reply more
replies-more : (P : List ℕ → List ℕ → Type 0) (lines : List (List ℕ)) (octets line text : List ℕ) →
    AreReplies P lines octets → P line text → AreReplies P (lines ++ line ∷ []) (octets ++ text)
replies-more P [] octets line text e r = (text, [], r, refl, rw e (sym (append-nil text)))
replies-more P (first ∷ lines) octets line text (t, rest, r0, more, e) r =
    (t, rest ++ text, r0, replies-more P lines rest line text more r, ap (λ z. z ++ text) e ∙ append_assoc t rest text)

-- known octets are as they were
pub keeps-same : (known : Option (List ℕ)) → Keeps known known
keeps-same None = tt
keeps-same (Some xs) = refl

appends-none : (known : Option (List ℕ)) → Appends known known []
appends-none None = tt
appends-none (Some xs) = sym (append-nil xs)

appends-kept : (before now after : Option (List ℕ)) (bs : List ℕ) → Appends before now bs → Keeps now after → Appends before after bs
appends-kept None now after bs x k = tt
appends-kept (Some xs) None after bs x k = elim x [ ]
appends-kept (Some xs) (Some ys) None bs x k = elim k [ ]
appends-kept (Some xs) (Some ys) (Some zs) bs x k = k ∙ x

appends-more : (before now after : Option (List ℕ)) (bs cs : List ℕ) →
    Appends before now bs → Appends now after cs → Appends before after (bs ++ cs)
appends-more None now after bs cs x y = tt
appends-more (Some xs) None after bs cs x y = elim x [ ]
appends-more (Some xs) (Some ys) None bs cs x y = elim y [ ]
appends-more (Some xs) (Some ys) (Some zs) bs cs x y = y ∙ ap (λ u. u ++ cs) x ∙ append_assoc xs bs cs

first-all : (input : Option (List ℕ)) → IfSome input (λ octets. IsSomeAnd input (λ left. lines_of octets ≡ lines_of left))
first-all None = tt
first-all (Some octets) = refl

pub replied-none : (P : List ℕ → List ℕ → Type 0) (input before : Option (List ℕ)) → HasReplied P input input before before
replied-none P input before = record {
  lines = [];
  texts = [];
  first = first-all input;
  are_replies = refl;
  printed = appends-none before;
}

first-more : (input rest left : Option (List ℕ)) (lines : List (List ℕ)) (line : List ℕ) →
    IfSome input (λ octets. IsSomeAnd rest (λ others. lines_of octets ≡ lines ++ lines_of others)) →
    TakesLine rest left line →
    IfSome input (λ octets. IsSomeAnd left (λ others. lines_of octets ≡ (lines ++ line ∷ []) ++ lines_of others))
first-more None rest left lines line x y = tt
first-more (Some octets) None left lines line x y = elim x [ ]
first-more (Some octets) (Some rest) left lines line x y = rw y.left
    (x ∙ ap (λ u. lines ++ u) (lines-cons rest y.some ∙ ap (λ u. u ∷ lines_of (drop_through 10 rest)) (sym y.is_line))
    ∙ sym (append_assoc lines (line ∷ []) (lines_of (drop_through 10 rest))))

pub replied-more : (P : List ℕ → List ℕ → Type 0) (input rest left before now after : Option (List ℕ)) →
    HasReplied P input rest before now → PrintsNext P rest left now after → HasReplied P input left before after
replied-more P input rest left before now after x y = record {
  lines = x.lines ++ y.line ∷ [];
  texts = x.texts ++ y.text;
  first = first-more input rest left x.lines y.line x.first y.takes;
  are_replies = replies-more P x.lines x.texts y.line y.text x.are_replies y.is_reply;
  printed = appends-more before now after x.texts y.text x.printed y.printed;
}

more-than-none : (lines others : List (List ℕ)) (line : List ℕ) → lines ++ line ∷ others ≢ []
more-than-none [] others line e = (cc)
more-than-none (first ∷ lines) others line e = (cc)

-- a line more is at least one
pub takes-next : (P : List ℕ → List ℕ → Type 0) (input rest left before now after : Option (List ℕ)) →
    HasReplied P input rest before now → PrintsNext P rest left now after → TakesTurns P true input left before after
unfolding replied-more
takes-next P input rest left before now after x y =
    (replied-more P input rest left before now after x y, more-than-none x.lines [] y.line)

first-end : (input rest : Option (List ℕ)) (lines : List (List ℕ)) →
    IfSome input (λ octets. IsSomeAnd rest (λ others. lines_of octets ≡ lines ++ lines_of others)) →
    IsAtEnd rest → IfSome input (λ octets. lines_of octets ≡ lines ++ [])
first-end None rest lines x e = tt
first-end (Some octets) None lines x e = elim x [ ]
first-end (Some octets) (Some rest) lines x e = x ∙ ap (λ u. lines ++ lines_of u) e

pub replied-all : (P : List ℕ → List ℕ → Type 0) (input rest before now after : Option (List ℕ)) →
    HasReplied P input rest before now → IsAtEnd rest → Keeps now after → PrintsReplies P input [] before after
replied-all P input rest before now after x e k = record {
  lines = x.lines;
  texts = x.texts;
  first = first-end input rest x.lines x.first e;
  are_replies = x.are_replies;
  printed = appends-kept before now after x.texts x.printed k;
}

-- the lines that are left
abbrev pub left_lines : Option (List ℕ) → List (List ℕ)
left_lines None = []
left_lines (Some octets) = lines_of octets

first-some : (input rest : Option (List ℕ)) (lines : List (List ℕ)) →
    IfSome input (λ octets. IsSomeAnd rest (λ others. lines_of octets ≡ lines ++ lines_of others)) →
    IfSome input (λ octets. lines_of octets ≡ lines ++ left_lines rest)
first-some None rest lines x = tt
first-some (Some octets) None lines x = elim x [ ]
first-some (Some octets) (Some rest) lines x = x

pub replied-some : (P : List ℕ → List ℕ → Type 0) (input rest before now after : Option (List ℕ)) →
    HasReplied P input rest before now → Keeps now after → PrintsReplies P input (left_lines rest) before after
replied-some P input rest before now after x k = record {
  lines = x.lines;
  texts = x.texts;
  first = first-some input rest x.lines x.first;
  are_replies = x.are_replies;
  printed = appends-kept before now after x.texts x.printed k;
}

-- replies after replies
replies-then : (P : List ℕ → List ℕ → Type 0) (lines others : List (List ℕ)) (octets more : List ℕ) →
    AreReplies P lines octets → AreReplies P others more → AreReplies P (lines ++ others) (octets ++ more)
replies-then P [] others octets more e r = rw e r
replies-then P (first ∷ lines) others octets more (t, rest, r0, tail, e) r =
    (t, rest ++ more, r0, replies-then P lines others rest more tail r, ap (λ z. z ++ more) e ∙ append_assoc t rest more)

first-then : (input rest : Option (List ℕ)) (lines others : List (List ℕ)) (P : Option (List ℕ)) →
    IfSome input (λ octets. IsSomeAnd rest (λ left. lines_of octets ≡ lines ++ lines_of left)) →
    IfSome rest (λ octets. IsSomeAnd P (λ left. lines_of octets ≡ others ++ lines_of left)) →
    IfSome input (λ octets. IsSomeAnd P (λ left. lines_of octets ≡ (lines ++ others) ++ lines_of left))
first-then None rest lines others p x y = tt
first-then (Some octets) None lines others p x y = elim x [ ]
first-then (Some octets) (Some left) lines others None x y = elim y [ ]
first-then (Some octets) (Some left) lines others (Some end) x y =
    x ∙ ap (λ u. lines ++ u) y ∙ sym (append_assoc lines others (lines_of end))

last-then : (input rest : Option (List ℕ)) (lines others last : List (List ℕ)) →
    IfSome input (λ octets. IsSomeAnd rest (λ left. lines_of octets ≡ lines ++ lines_of left)) →
    IfSome rest (λ octets. lines_of octets ≡ others ++ last) → IfSome input (λ octets. lines_of octets ≡ (lines ++ others) ++ last)
last-then None rest lines others last x y = tt
last-then (Some octets) None lines others last x y = elim x [ ]
last-then (Some octets) (Some left) lines others last x y = x ∙ ap (λ u. lines ++ u) y ∙ sym (append_assoc lines others last)

pub replied-then : (P : List ℕ → List ℕ → Type 0) (input rest left before now after : Option (List ℕ)) →
    HasReplied P input rest before now → HasReplied P rest left now after → HasReplied P input left before after
replied-then P input rest left before now after x y = record {
  lines = x.lines ++ y.lines;
  texts = x.texts ++ y.texts;
  first = first-then input rest x.lines y.lines left x.first y.first;
  are_replies = replies-then P x.lines y.lines x.texts y.texts x.are_replies y.are_replies;
  printed = appends-more before now after x.texts y.texts x.printed y.printed;
}

-- replies that were kept, and then printed
appends-through : (kept : List ℕ) (before after : Option (List ℕ)) (texts : List ℕ) →
    Appends (Some []) (Some kept) texts → Appends before after kept → Appends before after texts
appends-through kept before after texts x y = rw (sym x) y

pub replied-through : (P : List ℕ → List ℕ → Type 0) (input rest before after : Option (List ℕ)) (kept : List ℕ) →
    HasReplied P input rest (Some []) (Some kept) → Appends before after kept → HasReplied P input rest before after
replied-through P input rest before after kept x y = record {
  lines = x.lines;
  texts = x.texts;
  first = x.first;
  are_replies = x.are_replies;
  printed = appends-through kept before after x.texts x.printed y;
}

prints-through : (P : List ℕ → List ℕ → Type 0) (input before after : Option (List ℕ)) (last : List (List ℕ)) (kept : List ℕ) →
    PrintsReplies P input last (Some []) (Some kept) → Appends before after kept → PrintsReplies P input last before after
prints-through P input before after last kept x y = record {
  lines = x.lines;
  texts = x.texts;
  first = x.first;
  are_replies = x.are_replies;
  printed = appends-through kept before after x.texts x.printed y;
}

pub turns-through : (P : List ℕ → List ℕ → Type 0) (more : Bool) (input rest before after : Option (List ℕ)) (kept : List ℕ) →
    TakesTurns P more input rest (Some []) (Some kept) → Appends before after kept → TakesTurns P more input rest before after
unfolding replied-through
turns-through P true input rest before after kept x y = (replied-through P input rest before after kept x.0 y, x.1)
turns-through P false input rest before after kept x y = prints-through P input before after [] kept x y

-- the same where some turns may have failed
pub turns-if-ok : (P : List ℕ → List ℕ → Type 0) (taken : Result Bool Fault) (input rest before after start : Option (List ℕ)) (kept : List ℕ) →
    start ≡ Some [] → IfOk taken (λ more. TakesTurns P more input rest start (Some kept)) → Appends before after kept →
    IfOk taken (λ more. TakesTurns P more input rest before after)
turns-if-ok P (Ok more) input rest before after start kept e x y = turns-through P more input rest before after kept (subst (λ z. TakesTurns P more input rest z (Some kept)) e x) y
turns-if-ok P (Err fault) input rest before after start kept e x y = tt

-- a whole is a front of itself
front_whole : (before after : Option (List ℕ)) (octets : List ℕ) → Appends before after octets → AppendsFront before after octets
front_whole before after octets x = (octets, [], sym (append-nil octets), x)

-- a front of what is a front
front_through : (kept : List ℕ) (before after : Option (List ℕ)) (texts : List ℕ) →
    AppendsFront (Some []) (Some kept) texts → AppendsFront before after kept → AppendsFront before after texts
front_through kept before after texts (front, rest, split, appended) (first, others, parts, printed) =
    (first, others ++ rest, split ∙ ap (λ z. z ++ rest) (sym appended ∙ parts) ∙ append_assoc first others rest, printed)

-- a front after what was printed
front_then : (before now after : Option (List ℕ)) (texts more : List ℕ) →
    Appends before now texts → AppendsFront now after more → AppendsFront before after (texts ++ more)
front_then before now after texts more x (front, rest, split, appended) =
    (texts ++ front, rest, ap (λ z. texts ++ z) split ∙ sym (append_assoc texts front rest), appends-more before now after texts front x appended)

breaks_through : (P : List ℕ → List ℕ → Type 0) (input before after : Option (List ℕ)) (kept : List ℕ) →
    BreaksReplies P input (Some []) (Some kept) → AppendsFront before after kept → BreaksReplies P input before after
breaks_through P input before after kept x y = record {
  lines = x.lines;
  last = x.last;
  texts = x.texts;
  first = x.first;
  are_replies = x.are_replies;
  printed = front_through kept before after x.texts x.printed y;
}

-- replies that were kept, of which a front was printed
breaks_printed : (P : List ℕ → List ℕ → Type 0) (input before after : Option (List ℕ)) (last : List (List ℕ)) (kept : List ℕ) →
    PrintsReplies P input last (Some []) (Some kept) → AppendsFront before after kept → BreaksReplies P input before after
breaks_printed P input before after last kept x y = record {
  lines = x.lines;
  last = last;
  texts = x.texts;
  first = x.first;
  are_replies = x.are_replies;
  printed = front_through kept before after x.texts (front_whole (Some []) (Some kept) x.texts x.printed) y;
}

breaks_ended : (P : List ℕ → List ℕ → Type 0) (input before after : Option (List ℕ)) (kept : List ℕ) (fault : Fault) →
    EndsReplies P input (Some []) (Some kept) fault → AppendsFront before after kept → BreaksReplies P input before after
breaks_ended P input before after kept WrongArguments x y = elim x [ ]
breaks_ended P input before after kept BadHexadecimal x y = elim x [ ]
breaks_ended P input before after kept (Decode _) x y = elim x [ ]
breaks_ended P input before after kept (Encode _) x y = elim x [ ]
breaks_ended P input before after kept CannotRead x y = breaks_printed P input before after x.0 kept x.1 y
breaks_ended P input before after kept CannotWrite x y = breaks_through P input before after kept x y
breaks_ended P input before after kept OutOfMemory x y = breaks_through P input before after kept x y

-- of the replies that some turns kept, a front was printed
pub breaks_turns : (P : List ℕ → List ℕ → Type 0) (taken : Result Bool Fault) (input rest before after start : Option (List ℕ)) (kept : List ℕ) →
    start ≡ Some [] → IfOk taken (λ more. TakesTurns P more input rest start (Some kept)) → IfErr taken (EndsReplies P input start (Some kept)) →
    AppendsFront before after kept → BreaksReplies P input before after
breaks_turns P taken input rest before after start kept e x z y = go taken
    (subst (λ s. IfOk taken (λ more. TakesTurns P more input rest s (Some kept))) e x)
    (subst (λ s. IfErr taken (EndsReplies P input s (Some kept))) e z)
  where
    go : (r : Result Bool Fault) → IfOk r (λ more. TakesTurns P more input rest (Some []) (Some kept)) → IfErr r (EndsReplies P input (Some []) (Some kept))
        → BreaksReplies P input before after
    go (Ok true) (x, some) z = breaks_printed P input before after (left_lines rest) kept (replied-some P input rest (Some []) (Some kept) (Some kept) x (keeps-same (Some kept))) y
    go (Ok false) x z = breaks_printed P input before after [] kept x y
    go (Err fault) x z = breaks_ended P input before after kept fault z y

-- writing failed
pub ends_written : (P : List ℕ → List ℕ → Type 0) (k : ErrorKind) (input before after : Option (List ℕ)) →
    BreaksReplies P input before after → EndsReplies P input before after (io_fault k CannotWrite)
ends_written P Kinds.OutOfMemory input before after x = x
ends_written P _ input before after x = x

pub ends_through : (P : List ℕ → List ℕ → Type 0) (input before after : Option (List ℕ)) (kept : List ℕ) (fault : Fault) →
    EndsReplies P input (Some []) (Some kept) fault → Appends before after kept → EndsReplies P input before after fault
ends_through P input before after kept WrongArguments x y = elim x [ ]
ends_through P input before after kept BadHexadecimal x y = elim x [ ]
ends_through P input before after kept (Decode _) x y = elim x [ ]
ends_through P input before after kept (Encode _) x y = elim x [ ]
ends_through P input before after kept CannotRead x y = (x.0, prints-through P input before after x.0 kept x.1 y)
ends_through P input before after kept CannotWrite x y = breaks_through P input before after kept x (front_whole before after kept y)
ends_through P input before after kept OutOfMemory x y = breaks_through P input before after kept x (front_whole before after kept y)

-- the last turns
pub prints-then : (P : List ℕ → List ℕ → Type 0) (input rest before now after : Option (List ℕ)) (last : List (List ℕ)) →
    HasReplied P input rest before now → PrintsReplies P rest last now after → PrintsReplies P input last before after
prints-then P input rest before now after last x y = record {
  lines = x.lines ++ y.lines;
  texts = x.texts ++ y.texts;
  first = last-then input rest x.lines y.lines last x.first y.first;
  are_replies = replies-then P x.lines y.lines x.texts y.texts x.are_replies y.are_replies;
  printed = appends-more before now after x.texts y.texts x.printed y.printed;
}

breaks_then : (P : List ℕ → List ℕ → Type 0) (input rest before now after : Option (List ℕ)) →
    HasReplied P input rest before now → BreaksReplies P rest now after → BreaksReplies P input before after
breaks_then P input rest before now after x y = record {
  lines = x.lines ++ y.lines;
  last = y.last;
  texts = x.texts ++ y.texts;
  first = last-then input rest x.lines y.lines y.last x.first y.first;
  are_replies = replies-then P x.lines y.lines x.texts y.texts x.are_replies y.are_replies;
  printed = front_then before now after x.texts y.texts x.printed y.printed;
}

breaks_kept : (P : List ℕ → List ℕ → Type 0) (input rest before now after : Option (List ℕ)) →
    HasReplied P input rest before now → Keeps now after → BreaksReplies P input before after
breaks_kept P input rest before now after x k = record {
  lines = x.lines;
  last = left_lines rest;
  texts = x.texts;
  first = first-some input rest x.lines x.first;
  are_replies = x.are_replies;
  printed = front_whole before after x.texts (appends-kept before now after x.texts x.printed k);
}

-- turns that fail end the replies
pub ends_then : (P : List ℕ → List ℕ → Type 0) (input rest before now after : Option (List ℕ)) (fault : Fault) →
    HasReplied P input rest before now → EndsReplies P rest now after fault → EndsReplies P input before after fault
ends_then P input rest before now after WrongArguments x y = elim y [ ]
ends_then P input rest before now after BadHexadecimal x y = elim y [ ]
ends_then P input rest before now after (Decode _) x y = elim y [ ]
ends_then P input rest before now after (Encode _) x y = elim y [ ]
ends_then P input rest before now after CannotRead x y = (y.0, prints-then P input rest before now after y.0 x y.1)
ends_then P input rest before now after CannotWrite x y = breaks_then P input rest before now after x y
ends_then P input rest before now after OutOfMemory x y = breaks_then P input rest before now after x y

-- a turn that fails ends the replies
pub ends_turn : (P : List ℕ → List ℕ → Type 0) (input rest before now after : Option (List ℕ)) (fault : Fault) →
    HasReplied P input rest before now → EndsTurn now after fault → EndsReplies P input before after fault
ends_turn P input rest before now after WrongArguments x k = elim k [ ]
ends_turn P input rest before now after BadHexadecimal x k = elim k [ ]
ends_turn P input rest before now after (Decode _) x k = elim k [ ]
ends_turn P input rest before now after (Encode _) x k = elim k [ ]
ends_turn P input rest before now after CannotRead x k = (left_lines rest, replied-some P input rest before now after x k)
ends_turn P input rest before now after CannotWrite x k = elim k [ ]
ends_turn P input rest before now after OutOfMemory x k = breaks_kept P input rest before now after x k

-- where nothing could be read
pub ends_unread : (P : List ℕ → List ℕ → Type 0) (k : ErrorKind) (input before : Option (List ℕ)) → EndsReplies P input before before (io_fault k CannotRead)
ends_unread P Kinds.OutOfMemory input before = ends_turn P input input before before before OutOfMemory (replied-none P input before) (keeps-same before)
ends_unread P _ input before = ends_turn P input input before before before CannotRead (replied-none P input before) (keeps-same before)

prepend_none : (known : Option (List ℕ)) → prepend_known [] known ≡ known
prepend_none None = refl
prepend_none (Some xs) = refl

-- a buffer in front of a reader, with nothing in it
pub read_from_start : {T A : Type 0} (remaining : T → Option (List ℕ)) (reader : BufReader T A) (inner : T) →
    reader_inner reader ≡ inner → reader_buffer reader ≡ [] → reader_capacity reader ≡ 8192 →
    reader_remaining remaining reader ≡ remaining inner
read_from_start remaining reader inner i b c =
    rw (c, b) (prepend_none (remaining (reader_inner reader)) ∙ ap remaining i)
