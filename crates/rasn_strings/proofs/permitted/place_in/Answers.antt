use Rattle.std.proofs.Common.{sym, Ok, Err}
use Rattle.std.proofs.lemmas.List.Sorted.{searched}
use Rattle.rasn_strings.proofs.Searching.{rises_ordered, place_found, place_lacking}
use Rattle.rasn_strings.proofs.permitted.place_in.Goals as goal

pub returns-in-Ok : goal.returns-in-Ok
returns-in-Ok c = let s = searched c.args.ascending.now c.args.character (Ok c.in-Ok.place) c.in-Ok.ensures.position (rises_ordered c.args.ascending.now c.requires.rises) in
    sym (place_found c.args.ascending.now c.args.character c.in-Ok.place c.requires.rises s.0 s.1)

pub returns-in-Err : goal.returns-in-Err
returns-in-Err c = let s = searched c.args.ascending.now c.args.character (Err c.in-Err.field-0) c.in-Err.ensures.position (rises_ordered c.args.ascending.now c.requires.rises) in
    sym (place_lacking c.args.ascending.now c.args.character c.in-Err.field-0 s.1 s.2)
