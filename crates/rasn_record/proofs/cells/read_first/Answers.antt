use Rattle.std.specs.Prelude.{map}
use Rattle.rasn_schema.specs.Fields.{shape_of}
use Rattle.rasn_schema.specs.Structures.{tag_of}
use Rattle.rasn_record.proofs.FirstOnSide.{by_field}
use Rattle.rasn_record.proofs.cells.read_first.Goals as goal

pub returns : goal.returns
returns g c = by_field g.S.DecodeSide.side g.D.Decoder.rules (tag_of g.C.Of.AsnType.TAG) (map shape_of c.args.fields.now) _ _ _ _ _ _
    (rw (c.given_or_own-in_use.ensures, c.CONSTRAINTS.ensures, c.first_tag-tag.ensures, c.TAG.ensures) at c.decode_component.ensures)
