use Rattle.storage.proofs.Handing.{any_open_is}
use Rattle.storage.proofs.ring.RingBuffer.would_write.Goals as goal

pub returns : goal.returns
returns g c slots =
    let r = c.args.self.now in any_open_is slots r.last.index r.last.size r.generation r.meta.readers c.has_reader.result c.has_reader.ensures
