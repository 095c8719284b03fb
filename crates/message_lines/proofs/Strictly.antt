-- Replies to lines, of which some may be refused.
use Rattle.std.proofs.Common.{◌≡◌, refl, sym, subst, ℕ, Bool, true, false, ◌||◌, List, [], ◌∷◌, ◌++◌, Option}
use Rattle.line_replies.specs.Printing.{AreReplies, HasReplied, PrintsNext}
use Rattle.line_replies.proofs.ReplyLaws.{replied-more}
use Rattle.message_lines.specs.Replies.{IsReply, IsReplyWhere, Replied}
use Rattle.message_lines.specs.declared.replies.Messages.{Messages}

-- what holds of one reply holds of all
replies-all : (P Q : List ℕ → List ℕ → Type 0) → ((line text : List ℕ) → P line text → Q line text) → (lines : List (List ℕ)) (octets : List ℕ) →
    AreReplies P lines octets → AreReplies Q lines octets
replies-all P Q each [] octets e = e
replies-all P Q each (line ∷ lines) octets (text, rest, reply, others, e) =
    (text, rest, each line text reply, replies-all P Q each lines rest others, e)

replied-all-of : (P Q : List ℕ → List ℕ → Type 0) → ((line text : List ℕ) → P line text → Q line text) → (input rest before after : Option (List ℕ)) →
    HasReplied P input rest before after → HasReplied Q input rest before after
replied-all-of P Q each input rest before after x = record {
  lines = x.lines;
  texts = x.texts;
  first = x.first;
  are_replies = replies-all P Q each x.lines x.texts x.are_replies;
  printed = x.printed;
}

next-of : (P Q : List ℕ → List ℕ → Type 0) → ((line text : List ℕ) → P line text → Q line text) → (input rest before after : Option (List ℕ)) →
    PrintsNext P input rest before after → PrintsNext Q input rest before after
next-of P Q each input rest before after x = record {
  line = x.line;
  text = x.text;
  takes = x.takes;
  is_reply = each x.line x.text x.is_reply;
  printed = x.printed;
}

-- where a line is refused or was, all are replied to
where-so_far : (some more : Bool) (m : Messages) (line text : List ℕ) → IsReplyWhere some m line text → IsReplyWhere (some || more) m line text
where-so_far true more m line text x = x
where-so_far false true m line text x = (false, x)
where-so_far false false m line text x = x

where-next : (some more : Bool) (m : Messages) (line text : List ℕ) → Replied m more line text → IsReplyWhere (some || more) m line text
where-next true more m line text x = (more, x)
where-next false true m line text x = (true, x)
where-next false false m line text x = x

-- one line more
pub where-more : (some more : Bool) (m : Messages) (input rest left before now after : Option (List ℕ)) →
    HasReplied (IsReplyWhere some m) input rest before now → PrintsNext (Replied m more) rest left now after →
    HasReplied (IsReplyWhere (some || more) m) input left before after
where-more some more m input rest left before now after x y =
    replied-more (IsReplyWhere (some || more) m) input rest left before now after
    (replied-all-of (IsReplyWhere some m) (IsReplyWhere (some || more) m) (where-so_far some more m) input rest before now x)
    (next-of (Replied m more) (IsReplyWhere (some || more) m) (where-next some more m) rest left now after y)
