-- Twofish as the block cipher of the modes.
use Rattle.twofish.specs.Twofish.{encrypt_block, decrypt_block}
use Rattle.chain.specs.Cipher.{Cipher}

abbrev pub twofish_cipher : Cipher
twofish_cipher = record { enc = encrypt_block; dec = decrypt_block }
