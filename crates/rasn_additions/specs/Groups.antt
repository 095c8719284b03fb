-- The word in which a schema's author lists an addition group (ITU-T X.680, 25.1).
use Rattle.rasn_schema.specs.Components.{Component}
use Rattle.rasn_schema.specs.Schemas

-- an addition group, by the SEQUENCE of its components (X.680 25.1)
abbrev pub group : Component → Component
group c = record {
  tags = c.tags;
  presence = Schemas.group;
  schema = c.schema;
  levelled = c.levelled;
  fits = c.fits;
}
