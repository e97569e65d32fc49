-- The reversal of a trellis is as connected, and as cheap, as the trellis.
use Rattle.std.proofs.Common.{ℕ}
use Rattle.paths.specs.Trellises.{Meaning, reversed}
use Rattle.paths.proofs.Reverses.{reversed_lawful, reversed_reaches}
use Rattle.modulo.specs.Spread.{Connected, Served}

pub reversed_connected : (states ceiling bits reach : ℕ) (m : Meaning) → Connected states ceiling bits reach m → Connected states ceiling bits reach (reversed m)
reversed_connected states ceiling bits reach m h = record {
  lawful = reversed_lawful h.lawful;
  reaches = reversed_reaches states reach m h.reaches;
  some_reach = h.some_reach;
  low_ceiling = h.low_ceiling;
}

pub reversed_served : (states ceiling bits reach : ℕ) (m : Meaning) → Served states ceiling bits reach m → Served states ceiling bits reach (reversed m)
reversed_served states ceiling bits reach m h = record {
  connected = reversed_connected states ceiling bits reach m h.connected;
  modest = h.modest;
}
