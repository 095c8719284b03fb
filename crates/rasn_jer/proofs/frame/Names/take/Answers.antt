use Rattle.std.proofs.Common.{sym, ap, ◌∙◌, drop, map}
use Rattle.std.proofs.lemmas.List.{drop-drop}
use Rattle.rasn_jer.proofs.frame.Names.take.Goals as goal

pub returns-in-Some-clause-leaves : goal.returns-in-Some-clause-leaves
returns-in-Some-clause-leaves g c = sym (drop-drop 1 c.self.inside.next (map (λ s. s.now) c.self.inside.list.items)) ∙ ap (drop 1) c.self.view_is
