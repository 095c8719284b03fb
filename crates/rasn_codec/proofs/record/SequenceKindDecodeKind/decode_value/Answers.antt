use Rattle.std.proofs.Common.{rules}
use Rattle.std.proofs.lemmas.Result.{err_from_is_err_and}
use Rattle.rasn_schema.specs.Components.{added_parts, has_marker, root_parts}
use Rattle.rasn_traits.proofs.Reading.{inside_left, record_ended, record_endless, record_failed}
use Rattle.rasn_traits.specs.Scopes.{AreRead}
use Rattle.rasn_codec.proofs.Decoded.{answered, refused}
use Rattle.rasn_codec.proofs.record.SequenceKindDecodeKind.decode_value.Goals as goal

pub returns-then-is_err : goal.returns-then-is_err
returns-then-is_err g c =
    let o = c.in_ok-outside.ensures.law in
    let cs = g.T.Components.components.0 in
    let p = refused c.decode_components-decoded.result c.if-is_err.ensures.value in
    let f = rw p.1 at c.decode_components-decoded.ensures in
    record {
      law = rw p.1 (record_failed g.met.D.Decoder.lawful g.met.D.Decoder.fields (root_parts cs) (has_marker cs.behind) (added_parts cs) o.0 o.1
          f.law);
      behaves = rw p.1 (search (rules, f.fails, f.kept));
    }

pub returns-in_err-close_fields : goal.returns-in_err-close_fields
unfolding AreRead
returns-in_err-close_fields g c =
    let o = c.in_ok-outside.ensures.law in
    let cs = g.T.Components.components.0 in
    let q = answered c.decode_components-decoded.result c.if-is_err.ensures.value in
    let a = rw q.1 at c.decode_components-decoded.ensures in
    let p = err_from_is_err_and c.from_residual-in_err-close_fields.result c.from_residual-in_err-close_fields.ensures.1 in
    record {
      law = rw (p.1, p.2) (record_endless g.met.D.Decoder.lawful g.met.D.Decoder.fields (root_parts cs) (has_marker cs.behind) (added_parts cs) o.0 o.1 _ _ _ a.law
          (c.in_err-close_fields.ensures.law (inside_left g.met.D.Decoder.lawful g.met.D.Decoder.fields (root_parts cs) (has_marker cs.behind) (added_parts cs) o.0 o.1 _ _ _ a.law)));
      behaves = search rules;
    }

pub returns : goal.returns
unfolding AreRead
returns g c =
    let o = c.in_ok-outside.ensures.law in
    let cs = g.T.Components.components.0 in
    let q = answered c.decode_components-decoded.result c.if-is_err.ensures.value in
    let a = rw q.1 at c.decode_components-decoded.ensures in
    record {
      law = rw q.1 (record_ended g.met.D.Decoder.lawful g.met.D.Decoder.fields (root_parts cs) (has_marker cs.behind) (added_parts cs) o.0 o.1 _ _ _ _ a.law
          (c.in_ok-close_fields.ensures.law (inside_left g.met.D.Decoder.lawful g.met.D.Decoder.fields (root_parts cs) (has_marker cs.behind) (added_parts cs) o.0 o.1 _ _ _ a.law)));
      behaves = rw q.1 (search (rules, a.kept));
    }

pub close_fields-requires : goal.close_fields-requires
unfolding AreRead
close_fields-requires g c =
    let o = c.in_ok-outside.ensures.law in
    let cs = g.T.Components.components.0 in
    let q = answered c.decode_components-decoded.result c.if-is_err.ensures.value in
    let a = rw q.1 at c.decode_components-decoded.ensures in
    record {
      in_turn = record {
        before = c.args.decoder.now;
        inside = c.open_fields.new.self;
        levels = g.D.Decoder.rules.levels c.open_fields.new.self;
        root = g.T.Components.contents q.0;
        added = g.T.Components.added q.0;
        opened = o.1;
        read = a.law;
      };
    }
