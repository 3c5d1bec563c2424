-- What a batch of the list means. Assumes nothing.
use Rattle.std.specs.Prelude.{ℕ, ◌-◌, List}
use Rattle.source.specs.Counting.{up_from}
use Rattle.replay_run.specs.declared.Batch.{Batch}
use Rattle.replay_run.specs.declared.Batch.TheVariants.{Listed, Counted}

abbrev pub batch_means : Batch → List ℕ
batch_means (Listed s) = s.rest.now
batch_means (Counted s) = up_from s.start (s.end - s.start)
