-- The line with the counts of a run.
use Rattle.std.specs.Prelude.{ℕ, List, [], ◌∷◌, ◌++◌, codes, decimal}
use Rattle.rb_protocol.specs.declared.format.TheConstants.{LINE_FEED}
use Rattle.rb_queue.specs.declared.audit.Audit.{Audit}

-- a JSON object with a number for each key
abbrev pub audit_json : Audit → List ℕ
audit_json audit =
    codes "{\"calls\":" ++ decimal audit.calls
    ++ (codes ",\"cleared\":" ++ decimal audit.cleared
    ++ (codes ",\"given\":" ++ decimal audit.given
    ++ (codes ",\"left\":" ++ decimal audit.left
    ++ (codes ",\"offered\":" ++ decimal audit.offered
    ++ (codes ",\"opening\":" ++ decimal audit.opening
    ++ (codes ",\"removed\":" ++ decimal audit.removed ++ codes "}"))))))

-- the object on a line of its own
abbrev pub audit_text : Audit → List ℕ
audit_text audit = audit_json audit ++ LINE_FEED ∷ []
