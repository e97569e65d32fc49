-- What a file keeps of the contents that it is written of.
use Rattle.cost_file.specs.declared.writer.Contents.{Contents}
use Rattle.cost_file.specs.Files.{Kept}
use Rattle.cost_file.specs.Promises.{kept}

abbrev pub kept_of : Contents → Kept
kept_of c = kept c.plan.values c.rows.now c.payload
