-- `word_at` meets its contract: the part of eight bytes is its one piece.
use Rattle.std.proofs.Common.{◌∙◌, ◌+◌, ◌-◌, take, drop, refl}
use Rattle.crc.proofs.Pieces.{eight_at}
use Rattle.search.proofs.Word.{words_agree}
use Rattle.search.proofs.word_at.Goals as goal

pub returns : goal.returns
returns c =
    let a = c.args in
    c.from_le_bytes.ensures
    ∙ eight_at a.bytes.now (take (a.i + 8 - a.i) (drop a.i a.bytes.now)) a.i c.as_chunks.result.0.now c.requires refl c.as_chunks.ensures.front
    ∙ words_agree a.bytes.now a.i
