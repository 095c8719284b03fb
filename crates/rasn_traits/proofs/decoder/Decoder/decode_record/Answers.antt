use Rattle.std.proofs.Common.{rules}
use Rattle.std.proofs.lemmas.Result.{err_from_is_err_and}
use Rattle.rasn_traits.proofs.Reading.{both_read, inside_left, record_addition_failed, record_ended, record_endless, record_root_failed}
use Rattle.rasn_traits.proofs.decoder.Decoder.decode_record.Goals as goal

pub returns-in_err-root : goal.returns-in_err-root
returns-in_err-root g c =
    let o = c.in_ok-outside.ensures.law in
    let w = rw (← c.requires.root (g.Self.Decoder.rules.levels c.open_fields.new.self)) at c.in_err-root.ensures.law in
    let p = err_from_is_err_and c.from_residual-in_err-root.result c.from_residual-in_err-root.ensures.1 in
    record {
      law = rw (p.1, p.2) (record_root_failed g.met.Self.Decoder.lawful g.met.Self.Decoder.fields g.C.Constructed.parts g.C.Constructed.IS_EXTENSIBLE g.C.Constructed.additions o.0 o.1 w);
      behaves = search rules;
    }

pub returns-in_err-added : goal.returns-in_err-added
returns-in_err-added g c =
    let o = c.in_ok-outside.ensures.law in
    let w = rw (← c.requires.root (g.Self.Decoder.rules.levels c.open_fields.new.self)) at c.in_ok-root.ensures.law in
    let v = rw (← c.requires.behind (g.Self.Decoder.rules.levels c.decode_parts.new.decoder)) at c.in_err-added.ensures.law in
    let p = err_from_is_err_and c.from_residual-in_err-added.result c.from_residual-in_err-added.ensures.1 in
    record {
      law = rw (p.1, p.2) (record_addition_failed g.met.Self.Decoder.lawful g.met.Self.Decoder.fields g.C.Constructed.parts g.C.Constructed.IS_EXTENSIBLE g.C.Constructed.additions o.0 o.1 _ _ w v);
      behaves = search rules;
    }

pub returns-in_err-close_fields : goal.returns-in_err-close_fields
returns-in_err-close_fields g c =
    let o = c.in_ok-outside.ensures.law in
    let w = rw (← c.requires.root (g.Self.Decoder.rules.levels c.open_fields.new.self)) at c.in_ok-root.ensures.law in
    let v = rw (← c.requires.behind (g.Self.Decoder.rules.levels c.decode_parts.new.decoder)) at c.in_ok-added.ensures.law in
    let both = both_read g.met.Self.Decoder.lawful g.met.Self.Decoder.fields g.C.Constructed.parts g.C.Constructed.IS_EXTENSIBLE g.C.Constructed.additions o.0 o.1 _ _ _ _ w v in
    let p = err_from_is_err_and c.from_residual-in_err-close_fields.result c.from_residual-in_err-close_fields.ensures.1 in
    record {
      law = rw (p.1, p.2) (record_endless g.met.Self.Decoder.lawful g.met.Self.Decoder.fields g.C.Constructed.parts g.C.Constructed.IS_EXTENSIBLE g.C.Constructed.additions o.0 o.1 _ _ _ both
          (c.in_err-close_fields.ensures.law (inside_left g.met.Self.Decoder.lawful g.met.Self.Decoder.fields g.C.Constructed.parts g.C.Constructed.IS_EXTENSIBLE g.C.Constructed.additions o.0 o.1 _ _ _ both)));
      behaves = search rules;
    }

pub returns : goal.returns
returns g c =
    let o = c.in_ok-outside.ensures.law in
    let w = rw (← c.requires.root (g.Self.Decoder.rules.levels c.open_fields.new.self)) at c.in_ok-root.ensures.law in
    let v = rw (← c.requires.behind (g.Self.Decoder.rules.levels c.decode_parts.new.decoder)) at c.in_ok-added.ensures.law in
    let both = both_read g.met.Self.Decoder.lawful g.met.Self.Decoder.fields g.C.Constructed.parts g.C.Constructed.IS_EXTENSIBLE g.C.Constructed.additions o.0 o.1 _ _ _ _ w v in
    record {
      law = record_ended g.met.Self.Decoder.lawful g.met.Self.Decoder.fields g.C.Constructed.parts g.C.Constructed.IS_EXTENSIBLE g.C.Constructed.additions o.0 o.1 _ _ _ _ both
          (c.in_ok-close_fields.ensures.law (inside_left g.met.Self.Decoder.lawful g.met.Self.Decoder.fields g.C.Constructed.parts g.C.Constructed.IS_EXTENSIBLE g.C.Constructed.additions o.0 o.1 _ _ _ both));
      behaves = search rules;
    }

pub close_fields-requires : goal.close_fields-requires
close_fields-requires g c =
    let o = c.in_ok-outside.ensures.law in
    let w = rw (← c.requires.root (g.Self.Decoder.rules.levels c.open_fields.new.self)) at c.in_ok-root.ensures.law in
    let v = rw (← c.requires.behind (g.Self.Decoder.rules.levels c.decode_parts.new.decoder)) at c.in_ok-added.ensures.law in
    record {
      in_turn = record {
        before = _;
        inside = c.open_fields.new.self;
        levels = g.Self.Decoder.rules.levels c.open_fields.new.self;
        root = _;
        added = _;
        opened = o.1;
        read = both_read g.met.Self.Decoder.lawful g.met.Self.Decoder.fields g.C.Constructed.parts g.C.Constructed.IS_EXTENSIBLE g.C.Constructed.additions o.0 o.1 _ _ _ _ w v;
      };
    }
