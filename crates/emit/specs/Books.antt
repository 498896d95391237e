-- What is known of a text's tokens, by columns.
use Rattle.ledger.specs.Book.{Wide, Thin, wide_of, thin_of}
use Rattle.emit.specs.declared.Book.{Book}

abbrev pub wide_in : Book → Wide
wide_in book = wide_of book.wide.now

abbrev pub thin_in : Book → Thin
thin_in book = thin_of book.thin.now
