use Rattle.std.proofs.Common.{◌≤◌, arith, rules}
use Rattle.std.proofs.lemmas.Result.{err_from_is_err_and}
use Rattle.rasn_schema.specs.Normal.{normals}
use Rattle.rasn_traits.specs.Scopes.{deeper_of, presents_fields}
use Rattle.rasn_traits.proofs.Writing.{left_levels, record_addition_refused, record_ended, record_root_refused, right_levels}
use Rattle.rasn_traits.proofs.encoder.Encoder.encode_record.Goals as goal

pub returns-in_err-encode_parts : goal.returns-in_err-encode_parts
returns-in_err-encode_parts g c =
    let p = err_from_is_err_and c.from_residual-in_err-encode_parts.result c.from_residual-in_err-encode_parts.ensures.1 in
    let o = c.in_ok-outside.ensures.law in
    let k = g.P.EncodeParts.levels c.args.parts.now in
    let m = g.Q.EncodeAdditions.levels c.args.additions.now in
    record {
      law = rw (p.1, p.2) (record_root_refused g.Self.Encoder.rules g.C.Constructed.parts g.C.Constructed.IS_EXTENSIBLE g.C.Constructed.additions _ _ _ _
          c.open_fields.new.self c.encode_parts.new.encoder c.args.self.now _ (λ n. (o n).1)
          (λ n le. rw (c.requires.root n) (c.in_err-encode_parts.ensures.law.at n (left_levels k m n le))));
      behaves = search rules;
    }

pub returns-in_err-encode_additions : goal.returns-in_err-encode_additions
returns-in_err-encode_additions g c =
    let p = err_from_is_err_and c.from_residual-in_err-encode_additions.result c.from_residual-in_err-encode_additions.ensures.1 in
    let o = c.in_ok-outside.ensures.law in
    let k = g.P.EncodeParts.levels c.args.parts.now in
    let m = g.Q.EncodeAdditions.levels c.args.additions.now in
    record {
      law = rw (p.1, p.2) (record_addition_refused g.Self.Encoder.rules g.met.Self.Encoder.lawful g.C.Constructed.parts g.C.Constructed.IS_EXTENSIBLE g.C.Constructed.additions _ _ _ _
          c.open_fields.new.self c.encode_parts.new.encoder c.encode_additions.new.encoder c.args.self.now _ (λ n. (o n).1)
          (λ n le. rw (c.requires.root n) (c.in_ok-encode_parts.ensures.law.at n (left_levels k m n le)))
          (λ n le. rw (c.requires.behind n) (c.in_err-encode_additions.ensures.law.at n (right_levels k m n le))));
      behaves = search rules;
    }

pub returns : goal.returns
returns g c =
    let o = c.in_ok-outside.ensures.law in
    let k = g.P.EncodeParts.levels c.args.parts.now in
    let m = g.Q.EncodeAdditions.levels c.args.additions.now in
    record {
      law = record_ended g.Self.Encoder.rules g.Self.Encoder.opens_fields g.C.Constructed.parts g.C.Constructed.IS_EXTENSIBLE g.C.Constructed.additions
          (g.P.EncodeParts.contents c.args.parts.now) (g.Q.EncodeAdditions.contents c.args.additions.now) _
          c.args.self.now c.open_fields.new.self c.encode_parts.new.encoder c.encode_additions.new.encoder _ (λ n. (o n).0)
          (λ n le. rw (c.requires.root n) (c.in_ok-encode_parts.ensures.law.at n (left_levels k m n le)))
          (λ n le. rw (c.requires.behind n) (c.in_ok-encode_additions.ensures.law.at n (right_levels k m n le))) _ _ c.close_fields.ensures;
      behaves = search rules;
    }

pub close_fields-requires : goal.close_fields-requires
close_fields-requires g c =
    let C = g.C.Constructed in
    let o = c.in_ok-outside.ensures.law in
    let k = g.P.EncodeParts.levels c.args.parts.now in
    let m = g.Q.EncodeAdditions.levels c.args.additions.now in
    let n = deeper_of k m in
    let le : n ≤ n = omega arith in
    record {
      in_turn = record {
        before = c.args.self.now;
        inside = c.open_fields.new.self;
        levels = n;
        root = normals (C.parts n) (g.P.EncodeParts.contents c.args.parts.now);
        added = normals (C.additions n) (g.Q.EncodeAdditions.contents c.args.additions.now);
        opened = (o n).0;
        presented = presents_fields {m = c.encode_parts.new.encoder}
            (rw (c.requires.root n) (c.in_ok-encode_parts.ensures.law.at n (left_levels k m n le)))
            (rw (c.requires.behind n) (c.in_ok-encode_additions.ensures.law.at n (right_levels k m n le)));
      };
    }
