-- What contracts see of a source and a sink in memory, and how much such a source gives.
use Rattle.std.specs.Prelude.{◌≡◌, ℕ, List, [], ⊤, length, min}
use Rattle.agg_ports.specs.declared.ports.Taken.{Taken}
use Rattle.agg_ports.specs.declared.ports.Taken.TheVariants as taken

-- the bytes that a source has left, the most that it gives a call, the numbers of the calls that fail, and its counts
pub record Supply : Type 0 where
  pub left : List ℕ
  pub most : ℕ
  pub fails : List ℕ
  pub calls : ℕ
  pub faults : ℕ

-- the bytes that a sink holds, how many it takes in all, the numbers of the calls that fail, and its counts
pub record Holding : Type 0 where
  pub held : List ℕ
  pub room : ℕ
  pub fails : List ℕ
  pub calls : ℕ
  pub faults : ℕ

-- a source before its first call
abbrev pub new_supply : List ℕ → ℕ → List ℕ → Supply
new_supply bytes most fails = record { left = bytes; most = most; fails = fails; calls = 0; faults = 0 }

-- a sink before its first call
abbrev pub new_holding : ℕ → List ℕ → Holding
new_holding room fails = record { held = []; room = room; fails = fails; calls = 0; faults = 0 }

-- bytes that are given are as many as the buffer holds, as are left and as one call may give
abbrev pub TakesMost : ℕ → List ℕ → List ℕ → Taken → Type 0
TakesMost most left buffer (taken.Bytes n) = n ≡ min (min (length buffer) most) (length left)
TakesMost most left buffer taken.End = ⊤
TakesMost most left buffer taken.Failed = ⊤
