use Rattle.per_samples_sets.proofs.Contents.{contents_of, depth_of}
use Rattle.per_samples_sets.proofs.dnest.DnestEncode.+write.Goals as goal

pub returns : goal.returns
returns g t c = rw (depth_of c.args.self.now, contents_of c.args.self.now) c.encode_record.ensures
