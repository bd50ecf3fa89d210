mod Furthest
