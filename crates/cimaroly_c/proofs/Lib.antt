mod Cursors
