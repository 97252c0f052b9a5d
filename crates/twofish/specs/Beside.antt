-- Three blocks side by side.
use Rattle.twofish.specs.declared.Block.{Block}
use Rattle.twofish.specs.declared.Three.{Three}

-- F of each
abbrev pub threefold : (Block → Block) → Three → Three
threefold F t = record { x = F t.x; y = F t.y; z = F t.z }
