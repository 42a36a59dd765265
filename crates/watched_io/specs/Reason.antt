-- Why a file could not be opened or read, in words.
use Rattle.std.specs.Prelude.{ℕ, List, codes}
use Rattle.std.specs.declared.io.ErrorKind.{ErrorKind}
use Rattle.std.specs.declared.io.ErrorKind.TheVariants.{NotFound, PermissionDenied, IsADirectory, NotADirectory, InvalidFilename, FilesystemLoop, OutOfMemory}

-- the reason in words, by the kind of the error
abbrev pub reason_text : ErrorKind → List ℕ
reason_text NotFound = codes "there is no such file"
reason_text PermissionDenied = codes "permission is denied"
reason_text IsADirectory = codes "it is a folder"
reason_text NotADirectory = codes "a part of its path is no folder"
reason_text InvalidFilename = codes "its name is too long"
reason_text FilesystemLoop = codes "its links lead in a circle"
reason_text OutOfMemory = codes "there is no memory for it"
reason_text kind = codes "opening or reading it failed"
