-- What requests are answered.
use Rattle.std.specs.Prelude.{ℕ, Bool, true, false, not, List, [], Option}
use Rattle.line_replies.specs.Printing.{PrintsAnswer, PrintsReplies}
use Rattle.line_replies.specs.declared.layout.Layout.{Layout}
use Rattle.line_replies.specs.declared.layout.Layout.TheVariants.{Compact, Pretty}
use Rattle.message_lines.specs.Replies.{IsAnswer, IsReplyWhere, PrintsShown}
use Rattle.message_lines.specs.declared.replies.Messages.{Messages}
use Rattle.message_lines.specs.declared.request.Form.{Form}
use Rattle.message_lines.specs.declared.request.Form.TheVariants.{FirstLine, AllLines, Octets}
use Rattle.message_lines.specs.declared.replies.Task.{Task}
use Rattle.message_lines.specs.declared.replies.Task.TheVariants.{Show, Check, Make}
use Rattle.message_lines.specs.declared.request.Program.{Program}
use Rattle.message_lines.specs.declared.request.Program.TheVariants.{Show as ShowMessages, Make as MakeMessages}
use Rattle.message_lines.specs.declared.request.Request.{Request}

-- how JSON is laid out
abbrev pub layout_of : Bool → Layout
layout_of true = Pretty
layout_of false = Compact

-- what a program does with each message, in a layout, and with remarks or without
abbrev pub task_of : Program → Bool → Bool → Task
task_of ShowMessages is_pretty false = Show (layout_of is_pretty)
task_of ShowMessages is_pretty true = Check (layout_of is_pretty)
task_of MakeMessages is_pretty is_checked = Make

-- an output got the answer to the messages of an input that a request asks for; where it is strict, none was refused
abbrev pub HasAnsweredBy : Form → Request → Messages → Option (List ℕ) → Option (List ℕ) → Option (List ℕ) → Type 0
HasAnsweredBy FirstLine r m input before after = PrintsAnswer (IsAnswer m) input before after
HasAnsweredBy Octets r m input before after = PrintsShown m (layout_of r.is_pretty) r.is_checked input before after
HasAnsweredBy AllLines r m input before after =
    PrintsReplies (IsReplyWhere (not r.is_strict) m) input [] before after

abbrev pub HasAnswered : Request → Messages → Option (List ℕ) → Option (List ℕ) → Option (List ℕ) → Type 0
HasAnswered r = HasAnsweredBy r.form r
