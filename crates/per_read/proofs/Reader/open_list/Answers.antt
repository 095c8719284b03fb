use Rattle.std.proofs.Common.{◌∙◌, sym}
use Rattle.per_read.proofs.Reader.open_list.Goals as goal

pub returns-in-Some : goal.returns-in-Some
returns-in-Some c = rw (sym c.size.ensures ∙ c.in-Some.is) c.open_extensible_list.ensures

pub returns-in-None : goal.returns-in-None
returns-in-None c = rw (sym c.size.ensures ∙ c.in-None.is) c.open_sized_list.ensures
