use Rattle.std.proofs.Common.{◌≤◌, arith, rules}
use Rattle.std.proofs.lemmas.Result.{err_from_is_err_and}
use Rattle.rasn_schema.specs.Components.{added_parts, has_marker, root_parts}
use Rattle.rasn_schema.specs.Normal.{normals}
use Rattle.rasn_schema.specs.Schemas.{listed}
use Rattle.rasn_traits.proofs.Writing.{record_refused, record_closed}
use Rattle.rasn_codec.proofs.record.SequenceKindEncodeKind.encode_value.Goals as goal

pub returns-in_err-encode_components : goal.returns-in_err-encode_components
returns-in_err-encode_components g c =
    let o = c.in_ok-outside.ensures.law in
    let cs = g.T.Components.components.0 in
    let p = err_from_is_err_and c.from_residual-in_err-encode_components.result c.from_residual-in_err-encode_components.ensures.1 in
    record {
      law = rw (p.1, p.2) (record_refused g.E.Encoder.rules listed (root_parts cs) (has_marker cs.behind) (added_parts cs) _ _ _ _
          c.open_fields.new.self c.encode_components.new.encoder c.args.encoder.now _ (λ n. tt) (λ n. (o n).1)
          c.in_err-encode_components.ensures.law.at);
      behaves = search rules;
    }

pub returns : goal.returns
returns g c =
    let o = c.in_ok-outside.ensures.law in
    let cs = g.T.Components.components.0 in
    record {
      law = record_closed g.E.Encoder.rules g.E.Encoder.opens_fields listed (root_parts cs) (has_marker cs.behind) (added_parts cs) _ _ _
          c.args.encoder.now c.open_fields.new.self c.encode_components.new.encoder _ _ (λ n. (o n).0)
          c.in_ok-encode_components.ensures.law.at _ _ c.close_fields.ensures;
      behaves = search rules;
    }

pub close_fields-requires : goal.close_fields-requires
close_fields-requires g c =
    let o = c.in_ok-outside.ensures.law in
    let cs = g.T.Components.components.0 in
    let k = g.T.Components.depth c.args.value.now in
    let le : k ≤ k = omega arith in
    record {
      in_turn = record {
        before = c.args.encoder.now;
        inside = c.open_fields.new.self;
        levels = k;
        root = normals (root_parts cs k) (g.T.Components.contents c.args.value.now);
        added = normals (added_parts cs k) (g.T.Components.added c.args.value.now);
        opened = (o k).0;
        presented = c.in_ok-encode_components.ensures.law.at k le;
      };
    }
