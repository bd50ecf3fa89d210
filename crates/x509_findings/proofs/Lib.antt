-- Lemmas on lists of rules, and on the steps over them.
mod RuleLists
mod Steps
