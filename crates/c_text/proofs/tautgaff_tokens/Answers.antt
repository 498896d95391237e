-- What `token_lists::tokens_of` answered is put down part by part, and its lists are handed on. Assumes nothing.
use Rattle.c_text.proofs.Told.{told}
use Rattle.c_text.proofs.tautgaff_tokens.Goals as goal

pub returns : goal.returns
returns c =
    told c.tokens_of-read.ensures c.number_of.ensures c.parts_of.ensures
