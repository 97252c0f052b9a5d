-- talc_version: TALC_VERSION of the header that came with the archive. It goes up when an answer grows or changes its meaning.
use Rattle.std.specs.Prelude.{ℕ}

abbrev pub version : ℕ
version = 5
