use Rattle.std.proofs.Common.{◌≡◌, ◌≤◌, arith, ap, length, subst, sym, ◌∙◌}
use Rattle.std.specs.Prelude.{is_some}
use Rattle.rasn_dynamic.specs.Types.{behind}
use Rattle.lawful_types.proofs.Leaves.{items}
use Rattle.lawful_types.proofs.simple.compare_items.Goals as goal

pub returns-then-behind : goal.returns-then-behind
returns-then-behind c =
    let i' = c.args.newer.now in let i = c.args.older.now in
    let a = c.is_some.ensures in let b = c.is_some-2.ensures in let d = c.if-is_some.false in
    let marks : is_some i'.addeds ≡ is_some i.addeds = first_of (cc, grind (arith, a, b, d)) in
    let roots : length i'.roots.items ≡ length i.roots.items = sym i'.roots.ok.0 ∙ sym c.len.ensures ∙ c.if-len.true ∙ c.len-2.ensures ∙ i.roots.ok.0 in
    let more : length (behind i.addeds) ≤ length (behind i'.addeds) =
    subst (λ l. l ≤ length (behind i'.addeds)) (ap length c.behind-then-len.ensures) (subst (λ l. length c.behind-then-len.result.now ≤ l) (ap length c.behind.ensures) c.if-behind.true) in
    items i' i marks roots more
