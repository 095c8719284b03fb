-- DriveDirection ::= ENUMERATED { forward, backward, unavailable }
use Rattle.rasn_below.specs.Page.{Value, item, root}
use Rattle.its_header.specs.declared.direction.DriveDirection.{DriveDirection}
use Rattle.its_header.specs.declared.direction.DriveDirection.TheVariants.{Forward, Backward, Unavailable}

abbrev pub direction : DriveDirection → Value
direction Forward = item root 0
direction Backward = item root 1
direction Unavailable = item root 2
