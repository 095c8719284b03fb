use Rattle.std.proofs.Common.{rules, subst, sym, []}
use Rattle.std.proofs.lemmas.Result.{err_from_is_err_and}
use Rattle.rasn_schema.specs.Components.{added_parts, has_marker, root_parts}
use Rattle.rasn_traits.specs.Scopes.{ReadsFields}
use Rattle.rasn_traits.proofs.Reading.{inside_left, plainly_read, record_ended, record_endless}
use Rattle.rasn_constructed.proofs.read.record_of.Goals as goal

pub returns-in_err-close_fields : goal.returns-in_err-close_fields
returns-in_err-close_fields g c =
    let o = c.in_ok-outside.ensures.law in
    let cs = g.C.Components.components.0 in
    let n = g.D.Decoder.rules.levels c.open_fields.new.self in
    let p = err_from_is_err_and c.from_residual-in_err-close_fields.result c.from_residual-in_err-close_fields.ensures.1 in
    let w = rw (← (c.requires.components n).0) at c.in_ok-values.ensures.law in
    let a = subst (λ qs. ReadsFields g.D.Decoder.rules (root_parts cs n) qs c.open_fields.new.self (g.P.DecodeHoldingCells.contents c.in_ok-values.values) [] c.decode_cells.new.decoder)
    (sym (c.requires.components n).1) (plainly_read w) in
    record {
      law = rw (p.1, p.2) (record_endless g.met.D.Decoder.lawful g.met.D.Decoder.fields (root_parts cs) (has_marker cs.behind) (added_parts cs) o.0 o.1 _ _ _ a
          (c.in_err-close_fields.ensures.law (inside_left g.met.D.Decoder.lawful g.met.D.Decoder.fields (root_parts cs) (has_marker cs.behind) (added_parts cs) o.0 o.1 _ _ _ a)));
      behaves = search rules;
    }

pub returns : goal.returns
returns g c =
    let o = c.in_ok-outside.ensures.law in
    let cs = g.C.Components.components.0 in
    let n = g.D.Decoder.rules.levels c.open_fields.new.self in
    let w = rw (← (c.requires.components n).0) at c.in_ok-values.ensures.law in
    let a = subst (λ qs. ReadsFields g.D.Decoder.rules (root_parts cs n) qs c.open_fields.new.self (g.P.DecodeHoldingCells.contents c.in_ok-values.values) [] c.decode_cells.new.decoder)
    (sym (c.requires.components n).1) (plainly_read w) in
    record {
      law = record_ended g.met.D.Decoder.lawful g.met.D.Decoder.fields (root_parts cs) (has_marker cs.behind) (added_parts cs) o.0 o.1 _ _ _ _ a
          (c.in_ok-close_fields.ensures.law (inside_left g.met.D.Decoder.lawful g.met.D.Decoder.fields (root_parts cs) (has_marker cs.behind) (added_parts cs) o.0 o.1 _ _ _ a));
      behaves = search rules;
    }

pub close_fields-requires : goal.close_fields-requires
close_fields-requires g c =
    let o = c.in_ok-outside.ensures.law in
    let cs = g.C.Components.components.0 in
    let n = g.D.Decoder.rules.levels c.open_fields.new.self in
    let w = rw (← (c.requires.components n).0) at c.in_ok-values.ensures.law in
    record {
      in_turn = record {
        before = c.args.decoder.now;
        inside = c.open_fields.new.self;
        levels = n;
        root = g.P.DecodeHoldingCells.contents c.in_ok-values.values;
        added = [];
        opened = o.1;
        read = subst (λ qs. ReadsFields g.D.Decoder.rules (root_parts cs n) qs c.open_fields.new.self (g.P.DecodeHoldingCells.contents c.in_ok-values.values) [] c.decode_cells.new.decoder)
            (sym (c.requires.components n).1) (plainly_read w);
      };
    }
