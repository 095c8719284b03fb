use Rattle.std.proofs.Common.{rules}
use Rattle.std.proofs.lemmas.Result.{err_from_is_err_and}
use Rattle.rasn_schema.specs.Normal.{normals}
use Rattle.rasn_traits.proofs.Writing.{after_root, root_refused}
use Rattle.rasn_record.proofs.LevelsWithin.{added_within, root_within}
use Rattle.rasn_record.proofs.write.cells_and_additions.Goals as goal

pub returns-in_err-encode_parts : goal.returns-in_err-encode_parts
returns-in_err-encode_parts g c =
    let p = err_from_is_err_and c.from_residual.result c.from_residual.ensures.1 in
    let k = g.P.EncodeParts.levels c.args.cells.now in
    let m = g.Q.EncodeAdditions.levels c.args.additions.now in
    let ps = g.P.EncodeParts.parts c.args.cells.now in
    let qs = g.Q.EncodeAdditions.additions c.args.additions.now in
    record {
      law = rw (p.1, p.2) (record {
        at = λ n le. root_refused g.E.Encoder.rules (ps n) (qs n) c.args.encoder.now (normals (ps n) (g.P.EncodeParts.contents c.args.cells.now))
            (normals (qs n) (g.Q.EncodeAdditions.contents c.args.additions.now)) c.in_err-encode_parts.field-0.0 c.encode_parts.new.encoder (c.in_err-encode_parts.ensures.law.at n (root_within k m n le));
      });
      fails = search rules;
      kept = search rules;
    }

pub returns : goal.returns
returns g c =
    let k = g.P.EncodeParts.levels c.args.cells.now in
    let m = g.Q.EncodeAdditions.levels c.args.additions.now in
    let ps = g.P.EncodeParts.parts c.args.cells.now in
    let qs = g.Q.EncodeAdditions.additions c.args.additions.now in
    record {
      law = record {
        at = λ n le. after_root g.E.Encoder.rules g.met.E.Encoder.lawful (ps n) (qs n) c.args.encoder.now c.encode_parts.new.encoder
            (normals (ps n) (g.P.EncodeParts.contents c.args.cells.now)) (normals (qs n) (g.Q.EncodeAdditions.contents c.args.additions.now))
            (c.in_ok-encode_parts.ensures.law.at n (root_within k m n le)) _ _ (c.encode_additions.ensures.law.at n (added_within k m n le));
      };
      fails = search rules;
      kept = search rules;
    }
