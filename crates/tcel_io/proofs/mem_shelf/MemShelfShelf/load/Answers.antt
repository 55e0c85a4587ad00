use Rattle.std.proofs.Common.{rules, ◌≡◌, ◌⊎◌, ℕ, ◌+◌, List, Contains, IsNone, length, Option}
use Rattle.tcel_io.specs.File.{bytes_under}
use Rattle.tcel_io.proofs.mem_shelf.MemShelfShelf.load.Goals as goal

-- a load fails where one with the same list, number and file does
fails_too : (fails list : List ℕ) (number next : ℕ) (file told : Option (List ℕ)) → fails ≡ list → number ≡ next → file ≡ told
    → Contains fails number ⊎ IsNone file → Contains list next ⊎ IsNone told
fails_too fails list number next file told same_list same_number same_file h = rw (same_list, same_number, same_file) at h

pub returns-clause-fault : goal.returns-clause-fault
returns-clause-fault c = λ failed.
    let shelf = c.args.self.now in
    let here = c.next_file-file.ensures.fails.0 (c.append_file-answer.ensures.fault.0 failed) in
    fails_too _ shelf.fails _ (length shelf.loads + 1) _ (bytes_under shelf.files c.args.name.now) (search rules) (search rules) (search rules) here
