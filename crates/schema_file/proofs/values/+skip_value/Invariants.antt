use Rattle.schema_file.proofs.values.+skip_value.Given as goal

abbrev pub decreases-skip_value : goal.decreases-skip_value
decreases-skip_value l = l.levels
