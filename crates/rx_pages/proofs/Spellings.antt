-- Each token is read as it is spelled.
use Rattle.rx_pages.proofs.Words.{◌≡◌, ℕ, Option, sym, subst, Chars, Syntax, Html, Xhtml, Token, a_tag, an_end_of_raw, a_character, a_less_than, a_raw_run, a_reference, a_kept_run, a_bogus_comment, a_question, a_strict_comment, an_instruction, a_section, a_doctype, Content, ReadsEachToken, ReadAs, at_last, character, []}
use Rattle.rx_reader.proofs.Common.{a_comment}
use Rattle.rx_pages.proofs.Comments.{reads_comment, reads_bogus, reads_question, reads_instruction, reads_strict_comment, reads_section}
use Rattle.rx_pages.proofs.Texts.{first_text, reads_reference, reads_kept_run, reads_less_than}
use Rattle.rx_pages.proofs.Markup.{reads_tag}
use Rattle.rx_pages.proofs.RawText.{reads_raw_run, reads_end_of_raw}
use Rattle.rx_pages.proofs.Doctypes.{reads_doctype}

in_syntax : (s t : Syntax) (i : Content) (text : Chars) (next : Option ℕ) (token : Token) → s ≡ t → ReadAs t i text next token → ReadAs s i text next token
in_syntax s t i text next token e r = subst (λ (x : Syntax). ReadAs x i text next token) (sym e) r

pub reads_each : ReadsEachToken
reads_each s i _ next _ (a_tag text t m sp) = reads_tag s text t sp i next m
reads_each s i _ next _ (an_end_of_raw text name t r sp c n) = reads_end_of_raw s i name r text t sp c n next
reads_each s i _ next _ (a_character c h) = at_last [] c (character c) tt (first_text s i c h)
reads_each s i _ next _ (a_less_than e h b) = in_syntax s Html i _ next _ e (reads_less_than i next h b)
reads_each s i _ next _ (a_raw_run text name r h b) = reads_raw_run s i name r next text h b
reads_each s i _ next _ (a_reference body c r b m) = reads_reference s i next body c r b m
reads_each s i _ next _ (a_kept_run run k h b) = reads_kept_run s i next run k h b
reads_each s i _ next _ (a_comment text e m f) = in_syntax s Html i _ next _ e (reads_comment i next m text f)
reads_each s i _ next _ (a_bogus_comment text e m n f) = in_syntax s Html i _ next _ e (reads_bogus i next m text n f)
reads_each s i _ next _ (a_question text e m f) = in_syntax s Html i _ next _ e (reads_question i next m text f)
reads_each s i _ next _ (a_strict_comment text e m f) = in_syntax s Xhtml i _ next _ e (reads_strict_comment i next m text f)
reads_each s i _ next _ (an_instruction text e m f) = in_syntax s Xhtml i _ next _ e (reads_instruction i next m text f)
reads_each s i _ next _ (a_section text h f) = reads_section i next h s text f
reads_each s i _ next _ (a_doctype text m d) = reads_doctype i next m s text d
