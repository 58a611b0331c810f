-- A file found by its name.
use Rattle.std.proofs.Common.{◌≡◌, ℕ, ◌+◌, ◌<◌, cond, List, ◌∷◌, length, get_or, drop, sym, ap, ◌∙◌}
use Rattle.std.specs.Prelude.{Some}
use Rattle.std.specs.Str.{bytes_eq}
use Rattle.std.proofs.lemmas.List.{at_drop_more}
use Rattle.outside.specs.declared.named_bytes.NamedBytes.{NamedBytes}
use Rattle.outside.specs.Files.{bytes_of}
use Rattle.outside.specs.Memory.{files_of}

pub bytes_of-drop : (files : List NamedBytes) (name : List ℕ) (i : ℕ) (file : NamedBytes) → i < length files → file ≡ get_or files i file
    → bytes_of (files_of (drop i files)) name ≡ cond (bytes_eq (file.name) name) (Some file.bytes) (bytes_of (files_of (drop (i + 1) files)) name)
bytes_of-drop files name i file lt is =
    at_drop_more (λ (xs : List NamedBytes). bytes_of (files_of xs) name) files i file lt
    ∙ ap (λ (x : NamedBytes). bytes_of (files_of (x ∷ drop (i + 1) files)) name) (sym is)
