-- What contracts see of a source over a reader and a sink over a writer.
use Rattle.std.specs.Prelude.{ℕ}

-- the reader or the writer, and how often it has failed
pub record Stream (A : Type 0) : Type 0 where
  pub inner : A
  pub faults : ℕ
